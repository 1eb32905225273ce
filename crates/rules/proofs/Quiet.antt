-- What effects write, upon any venue: what holds of every record but answers, 67, 70 and 72, holds of all that they write but in generation and crossing.
-- And no effect writes an answer: the only one is the message's own.
use mathlib.Core.List.{List}
use Prim.Native.Nat.{ℕ}
use lib.IntN.{ℤ}
use Rattle.rules.specs.declared.Regular.{Regular}
use Rattle.rules.specs.declared.Legging.{Legging}
use Rattle.rules.specs.declared.Venue.{Venue}
use Rattle.rules.specs.declared.Message.{Message}
use Rattle.rules.specs.declared.Message.TheVariants.{Order, TwoLeg, Cancel, Away, Status, Sweep, Increment, Percent, LimitedSweep}
use Rattle.rules.specs.declared.Cause.{Cause}
use Rattle.rules.specs.declared.Verdict.{Verdict}
use Rattle.rules.specs.Records.{Report, answer, trade, pair, generated, removed, crossed, cancelled, looked}
use Rattle.rules.specs.Effects.{Effect, nothing, report, ◌⟫◌, Turn, repeat}
use Rattle.rules.specs.Removal.{remove, remove_of}
use Rattle.rules.specs.Standing.{parent_of, verdict, settle, show_again}
use Rattle.rules.specs.Trading.{fill_regular, trade_with}
use Rattle.rules.specs.Order.{meet, hit, meet_turn, enter_regular, order}
use Rattle.rules.specs.Generation.{generate}
use Rattle.rules.specs.Complex.{touch, leg_in_turn, work, complex, sweep}
use Rattle.rules.specs.Complex.{each_of, limited_sweep, cancel_regular, cancel_complex, rests_regular, cancel}
use Rattle.rules.specs.Places.{close_gaps}
use Rattle.rules.specs.Step.{perform, accept}
use Rattle.rules.proofs.Cases.{if-by, meet_turn-by}
pub use Rattle.rules.proofs.Takers.{All}
use Rattle.rules.proofs.Takers.{Told, Takes, told-each_of, told-generate, told-legging, told-pair, told-remove, told-repeat, told-take, told-then, told-touch, told-work}

-- Effects -------------------------------------------------------------------------------------

-- P holds of every record but answers, 67, 70 and 72
pub record Others (P : Report → Type 0) : Type 0 where
  pub trades : (s d p k x m : ℕ) → P (trade s d p k x m)
  pub pairs : (id : ℕ) (n : ℤ) (k : ℕ) → P (pair id n k)
  pub removals : (id s d : ℕ) (c : Cause) → P (removed id s d c)
  pub cancels : (id k : ℕ) → P (cancelled id k)

-- so of each taker's
takes : {P : Report → Type 0} → Others P → (taker : ℕ) → Takes P taker
takes others x = record { trades = λ s d p k m. others.trades s d p k x m; pairs = λ n k. others.pairs x n k; removals = others.removals }

module _ (P : Report → Type 0) (others : Others P) where
  pub all_nothing : (v : Venue) → All P (nothing v)
  unfolding nothing
  all_nothing v = tt

  pub all_then : (e : Effect) (f : Venue → Effect) → All P e → All P (f e.venue) → All P (e ⟫ f)
  all_then = told-then P

  all-report : (r : Report) → P r → (v : Venue) → All P (report r v)
  unfolding report
  all-report r h v = (h, tt)

  -- Loops
  pub all-each_of : (f : ℕ → Venue → Effect) → ((i : ℕ) (v : Venue) → All P (f i v)) → (places : List ℕ) (v : Venue) → All P (each_of f places v)
  all-each_of f ok places v = told-each_of P (λ _. Unit {0}) f places (λ i _ w _. (ok i w, tt)) v tt

  -- Everything but generation and crossing
  pub all_remove : (f : ℕ → Legging → Verdict) (v : Venue) → All P (remove f v)
  all_remove = told-remove P others.removals

  pub all-remove_of : (id : ℕ) (c : Cause) (v : Venue) → All P (remove_of id c v)
  unfolding remove_of
  all-remove_of id c v = all_remove _ v

  pub all-settle : (v : Venue) → All P (settle v)
  unfolding settle
  all-settle v = all_remove (verdict (show_again v)) (show_again v)

  all-trade : (x d i k : ℕ) (v : Venue) → All P (trade_with x d i k v)
  unfolding trade_with
  all-trade x d i k v = all-report (trade _ d _ k x _) (others.trades _ d _ k x _) (fill_regular i k v)

  all-hit : (i : ℕ) (l : Legging) (k : ℕ) (v : Venue) → All P (hit i l k v)
  unfolding hit
  all-hit i l k v =
      let by = takes others (parent_of v l).id in
      all_then _ _ (all_then _ _ (all-report (trade _ _ _ k _ _) (others.trades _ _ _ k _ _) _) (told-take P _ by _ _ _ k k _)) (told-pair P _ by _ _ k _)

  all_meet : (i j k : ℕ) (v : Venue) → All P (meet i j k v)
  unfolding meet
  all_meet i j k v = all-trade _ _ j k _

  abbrev AllTurn : Turn → Type 0
  AllTurn = Told P (λ _. Unit {0})

  all-meet_turn : (i : ℕ) (v : Venue) → AllTurn (meet_turn i v)
  all-meet_turn i v = meet_turn-by AllTurn i v (λ _. tt) (λ _ _ _. tt) (λ _ _ _. (all-hit i _ _ v, tt)) (λ _ j m _ _. (all_meet i j _ v, tt))

  pub all-order : (o : Regular) (v : Venue) → All P (order o v)
  unfolding order enter_regular
  all-order o v = all_then _ _ (told-repeat P (λ _. Unit {0}) _ (λ w _. all-meet_turn _ w) _ _ tt) (all-settle _)

  pub all-touch : (i : ℕ) (v : Venue) → All P (touch i v)
  all-touch = told-touch P others.removals

  pub all-legging : (i fuel : ℕ) (v : Venue) → All P (repeat fuel (leg_in_turn i) v)
  all-legging i fuel v = told-legging P i fuel v (takes others _)

  pub all-cancel : (id : ℕ) (v : Venue) → All P (cancel id v)
  unfolding cancel cancel_regular cancel_complex
  all-cancel id v =
      all_then _ settle
      (if-by (All P) (rests_regular v id)
      (λ _. all-report (cancelled _ _) (others.cancels _ _) _)
      (λ _. all_then _ _ (all-report (cancelled _ _) (others.cancels _ _) _) (all-remove_of _ _ _)))
      (all-settle _)

  -- Generation
  module _ (made : (id s d p x k : ℕ) → P (generated id s d p x k)) where
    pub all-generate : (number i : ℕ) (v : Venue) → All P (generate number i v)
    all-generate number i v = told-generate P others.removals number i v (made _)

  -- Crossing
  module _ (crosses : (x m : ℕ) (n : ℤ) (k : ℕ) → P (crossed x m n k)) where
    pub all-work : (i : ℕ) (v : Venue) → All P (work i v)
    all-work i v = told-work P i v (record { takes = takes others _; crosses = crosses _ })

-- No answers ----------------------------------------------------------------------------------

-- a record that is no answer
abbrev pub NoAnswer : Report → Type 0
NoAnswer (answer number refusal mask count) = ⊥
NoAnswer (trade series side price quantity taker maker) = Unit {0}
NoAnswer (pair id n quantity) = Unit {0}
NoAnswer (generated id series side price displayed quantity) = Unit {0}
NoAnswer (removed id series side cause) = Unit {0}
NoAnswer (crossed taker maker n quantity) = Unit {0}
NoAnswer (cancelled id quantity) = Unit {0}
NoAnswer (looked count) = Unit {0}

-- no answer among the records of an effect
abbrev pub Quiet : Effect → Type 0
Quiet = All NoAnswer

no_answer : Others NoAnswer
no_answer = record { trades = λ _ _ _ _ _ _. tt; pairs = λ _ _ _. tt; removals = λ _ _ _ _. tt; cancels = λ _ _. tt }

pub quiet-nothing : (v : Venue) → Quiet (nothing v)
quiet-nothing v = all_nothing NoAnswer no_answer v

quiet_then : (e : Effect) (f : Venue → Effect) → Quiet e → Quiet (f e.venue) → Quiet (e ⟫ f)
quiet_then e f h k = all_then NoAnswer no_answer e f h k

quiet-settle : (v : Venue) → Quiet (settle v)
quiet-settle v = all-settle NoAnswer no_answer v

quiet-work : (i : ℕ) (v : Venue) → Quiet (work i v)
quiet-work i v = all-work NoAnswer no_answer (λ _ _ _ _. tt) i v

quiet-generate : (number i : ℕ) (v : Venue) → Quiet (generate number i v)
quiet-generate number i v = all-generate NoAnswer no_answer (λ _ _ _ _ _ _. tt) number i v

quiet-perform : (number : ℕ) (m : Message) (v : Venue) → Quiet (perform number m v)
unfolding perform complex sweep limited_sweep
quiet-perform number (Order o) v = all-order NoAnswer no_answer o _
quiet-perform number (TwoLeg c) v = quiet_then _ _ (quiet_then _ _ (quiet-work _ _) (quiet-settle _)) (quiet-generate number _ _)
quiet-perform number (Cancel id) v = all-cancel NoAnswer no_answer id v
quiet-perform number (Away s bid offer) v = quiet-settle _
quiet-perform number (Status s x) v = quiet-settle _
quiet-perform number Sweep v =
    quiet_then _ _ (quiet_then _ _ (all-each_of NoAnswer no_answer work quiet-work _ v) (quiet-settle _))
    (all-each_of NoAnswer no_answer (generate number) (quiet-generate number) _ _)
quiet-perform number (Increment s i e) v = quiet-settle _
quiet-perform number (Percent x e) v = quiet-settle _
quiet-perform number (LimitedSweep n) v =
    quiet_then _ _ (quiet_then _ _ (quiet_then _ _ (all-report NoAnswer no_answer (looked _) tt _) (all-each_of NoAnswer no_answer work quiet-work _ _)) (quiet-settle _))
    (all-each_of NoAnswer no_answer (generate number) (quiet-generate number) _ _)

pub quiet-accept : (number : ℕ) (m : Message) (v : Venue) → Quiet (accept number m v)
unfolding accept
quiet-accept number m v = quiet_then (perform number m v) (λ w. nothing (close_gaps w)) (quiet-perform number m v) (quiet-nothing _)

-- Neither answers nor 67 nor 72 -----------------------------------------------------------------

-- a record that is none of these
abbrev pub Plain : Report → Type 0
Plain (answer number refusal mask count) = ⊥
Plain (trade series side price quantity taker maker) = Unit {0}
Plain (pair id n quantity) = Unit {0}
Plain (generated id series side price displayed quantity) = ⊥
Plain (removed id series side cause) = Unit {0}
Plain (crossed taker maker n quantity) = Unit {0}
Plain (cancelled id quantity) = Unit {0}
Plain (looked count) = ⊥

-- none of these among the records of an effect
abbrev pub Still : Effect → Type 0
Still = All Plain

pub plain : Others Plain
plain = record { trades = λ _ _ _ _ _ _. tt; pairs = λ _ _ _. tt; removals = λ _ _ _ _. tt; cancels = λ _ _. tt }

pub still-work : (i : ℕ) (v : Venue) → Still (work i v)
still-work i v = all-work Plain plain (λ _ _ _ _. tt) i v
