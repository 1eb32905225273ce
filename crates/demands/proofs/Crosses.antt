-- Every cross respects the legs: of one message, and over a list of calls.
use Rattle.std.specs.Prelude.{if◌then◌else◌}
use mathlib.Core.Path.{◌∙◌, ◌≡◌, ap, refl, sym}
use mathlib.Core.Bool.{Bool, true, false}
use mathlib.Core.List.{List, [], ◌∷◌, ◌++◌, append_assoc, append-nil}
use Prim.Native.Nat.{ℕ, zero, suc}
use lib.Dec.{eqb}
use lib.IntN.{neg_ℤ}
use Rattle.rules.specs.declared.Message.{Message}
use Rattle.rules.specs.declared.Message.TheVariants.{Order, TwoLeg, Cancel, Away, Status, Sweep, Increment, Percent, LimitedSweep}
use Rattle.rules.specs.declared.Venue.{Venue}
use Rattle.rules.specs.Words.{complex_at, fresh_venue}
use Rattle.rules.specs.Messages.{message_of}
use Rattle.rules.specs.Records.{ForAll, Report, FourBytes}
use Rattle.rules.specs.Effects.{Effect, Turn, ended, turned, nothing, report, ◌⟫◌, repeat}
use Rattle.rules.specs.Complex.{any_closed, cross, cross_turn, each_of, work, complex, limited_sweep, sweep}
use Rattle.rules.specs.Generation.{generate}
use Rattle.rules.specs.Places.{close_gaps}
use Rattle.rules.specs.Refusals.{refusal}
use Rattle.rules.specs.Step.{accept, answered, perform, step}
use Rattle.demands.specs.Demand.{Seen, start}
use Rattle.demands.specs.Truth.{leaves, venue_after}
use Rattle.demands.specs.Crosses.{CrossesRespect, Deal, Dealt, Moment, NoCross, Respects, crossings, deal, in_all, in_each_of, in_message, in_step, in_work, none, other}
use Rattle.rules.proofs.Crossing as law
use Rattle.rules.proofs.Crossing.{cross-respects, respects}
use Rattle.rules.proofs.Quiet.{All, Others, all-cancel, all-each_of, all-generate, all-legging, all_nothing, all-order, all-remove_of, all-settle, all-touch}
use Rattle.demands.proofs.Account.{onto}
use Rattle.demands.proofs.Induction.{all_keep}
use Rattle.demands.proofs.SoundnessLaws.{sound-out}
use Rattle.demands.proofs.Truth.{Told, more-told, start-told}

-- Records joined ------------------------------------------------------------------------------

no-cross : Others NoCross
no-cross = record { trades = λ _ _ _ _ _ _. tt; pairs = λ _ _ _. tt; removals = λ _ _ _ _. tt; cancels = λ _ _. tt }

dealt-append : {xs ys : List Moment} {rs qs : List Report} → Dealt xs rs → Dealt ys qs → Dealt (xs ++ ys) (rs ++ qs)
dealt-append none h = h
dealt-append (other n g) h = other n (dealt-append g h)
dealt-append (deal d g) h = deal d (dealt-append g h)

no-deals : (rs : List Report) → ForAll NoCross rs → Dealt [] rs
no-deals [] h = none
no-deals (r ∷ rs) h = other h.0 (no-deals rs h.1)

-- what an effect does, beside its moments of crossing
abbrev Does : List Moment → Effect → Type 0
Does xs e = Dealt xs e.reports

idle : (v : Venue) → Does [] (nothing v)
unfolding nothing
idle v = none

does-then : (xs ys : List Moment) (e : Effect) (f : Venue → Effect) → Does xs e → Does ys (f e.venue) → Does (xs ++ ys) (e ⟫ f)
unfolding ◌⟫◌
does-then xs ys e f h k = dealt-append h k

-- and then something that makes no cross
does-plain : (xs : List Moment) (e : Effect) (f : Venue → Effect) → Does xs e → All NoCross (f e.venue) → Does xs (e ⟫ f)
does-plain xs e f h k = rw (append-nil xs) at (does-then xs [] e f h (no-deals _ k))

-- Crossing ------------------------------------------------------------------------------------

abbrev now : (i : ℕ) → Venue → Moment
now i v = record { venue = v; place = i }

does-report : (x : Moment) (r : Report) (w : Venue) → Deal x r → Does (x ∷ []) (report r w)
unfolding report
does-report x r w d = deal d none

-- the 70, and then removals
does-cross : (i j k : ℕ) (v : Venue) → cross_turn i v ≡ turned (cross i j k v) →
    Respects v (complex_at v i) (neg_ℤ (complex_at v j).limit) → Respects v (complex_at v j) (complex_at v j).limit → Does (now i v ∷ []) (cross i j k v)
unfolding cross
does-cross i j k v is a b =
    does-plain _ _ _ (does-plain _ _ _ (does-report (now i v) _ _ (record { maker = j; quantity = k; is = is; told = refl; taker = a; resting = b }))
    (all-remove_of NoCross no-cross _ _ _)) (all-remove_of NoCross no-cross _ _ _)

does-crossing : (i fuel : ℕ) (v : Venue) → Does (crossings fuel i v) (repeat fuel (cross_turn i) v)
unfolding crossings repeat
does-crossing i zero v = idle v
does-crossing i (suc fuel) v = go (cross_turn i v) refl (cross-respects i v) (λ w. does-crossing i fuel w)
  where
    go : (t : Turn) → cross_turn i v ≡ t → law.Dealt i v t → ((w : Venue) → Does (crossings fuel i w) (repeat fuel (cross_turn i) w)) →
        Does (elim t as (λ _. List Moment) [ ended ↦ [] | turned e ↦ now i v ∷ crossings fuel i e.venue ])
        (elim t as (λ _. Effect) [ ended ↦ nothing v | turned e ↦ e ⟫ repeat fuel (cross_turn i) ])
    go _ is law.none on = idle v
    go _ is (law.dealt j k a b) on =
        does-then (now i v ∷ []) _ (cross i j k v) (repeat fuel (cross_turn i)) (does-cross i j k v is (respects _ _ _ a) (respects _ _ _ b)) (on _)

-- Messages ------------------------------------------------------------------------------------

does-if : (b : Bool) (xs ys : List Moment) (e f : Effect) → Does xs e → Does ys f → Does (if b then xs else ys) (if b then e else f)
does-if true xs ys e f h k = h
does-if false xs ys e f h k = k

does-work : (i : ℕ) (v : Venue) → Does (in_work i v) (work i v)
unfolding work in_work
does-work i v =
    let n = (complex_at v i).quantity in
    does-if (any_closed v (complex_at v i)) _ _ _ _ (idle v)
    (does-plain _ _ _ (does-plain _ _ _ (does-crossing i n v) (all-touch NoCross no-cross i _)) (all-legging NoCross no-cross i n _))

does-each_of : (places : List ℕ) (v : Venue) → Does (in_each_of places v) (each_of work places v)
unfolding in_each_of each_of
does-each_of [] v = idle v
does-each_of (i ∷ places) v = does-then _ _ (work i v) (each_of work places) (does-work i v) (does-each_of places _)

plain-generate : (number i : ℕ) (v : Venue) → All NoCross (generate number i v)
plain-generate number i v = all-generate NoCross no-cross (λ _ _ _ _ _ _. tt) number i v

does-perform : (number : ℕ) (m : Message) (v : Venue) → Does (in_message m v) (perform number m v)
unfolding in_message perform complex sweep limited_sweep report
does-perform number (Order o) v = no-deals _ (all-order NoCross no-cross o _)
does-perform number (TwoLeg c) v = does-plain _ _ _ (does-plain _ _ _ (does-work _ _) (all-settle NoCross no-cross _)) (plain-generate number _ _)
does-perform number (Cancel id) v = no-deals _ (all-cancel NoCross no-cross id v)
does-perform number (Away s bid offer) v = no-deals _ (all-settle NoCross no-cross _)
does-perform number (Status s x) v = no-deals _ (all-settle NoCross no-cross _)
does-perform number Sweep v =
    does-plain _ _ _ (does-plain _ _ _ (does-each_of _ v) (all-settle NoCross no-cross _)) (all-each_of NoCross no-cross (generate number) (plain-generate number) _ _)
does-perform number (Increment s i e) v = no-deals _ (all-settle NoCross no-cross _)
does-perform number (Percent x e) v = no-deals _ (all-settle NoCross no-cross _)
does-perform number (LimitedSweep n) v =
    does-plain _ _ _ (does-plain _ _ _ (does-then [] _ _ _ (other tt none) (does-each_of _ _)) (all-settle NoCross no-cross _))
    (all-each_of NoCross no-cross (generate number) (plain-generate number) _ _)

does-accept : (number : ℕ) (m : Message) (v : Venue) → Does (in_message m v) (accept number m v)
unfolding accept
does-accept number m v = does-plain _ (perform number m v) (λ w. nothing (close_gaps w)) (does-perform number m v) (all_nothing NoCross no-cross _)

does-step : (v : Venue) (n : ℕ) (bs : List ℕ) → Does (in_step v bs) (step v n bs).effect
unfolding step answered in_step
does-step v n bs = other tt (does-if (eqb (refusal v bs) 0) _ _ _ _ (does-accept n (message_of bs) v) (idle v))

-- Calls ---------------------------------------------------------------------------------------

-- one message more
in_all-more : (v : Venue) (n : ℕ) (ms : List (List ℕ)) (m : List ℕ) → in_all v n (ms ++ (m ∷ [])) ≡ in_all v n ms ++ in_step (leaves v n ms) m
unfolding in_all leaves
in_all-more v n [] m = append-nil (in_step v m)
in_all-more v n (x ∷ ms) m =
    let w = venue_after v (suc n) x in
    ap (λ (l : List Moment). in_step v x ++ l) (in_all-more w (suc n) ms m)
    ∙ sym (append_assoc (in_step v x) (in_all w (suc n) ms) (in_step (leaves w (suc n) ms) m))

-- so far, upon the venue that the messages leave
record Respected (s : Seen) : Type 0 where
  so : Told s
  dealt : Dealt (in_all fresh_venue 0 s.messages) s.reports

start-respected : Respected start
unfolding start in_all
start-respected = record { so = start-told; dealt = none }

more-respected : (s : Seen) (bs : List ℕ) → Respected s → FourBytes (suc s.done) → Respected (onto s bs (step s.venue (suc s.done) bs).effect)
unfolding onto
more-respected s bs h few = record {
  so = more-told s bs h.so few;
  dealt = rw (in_all-more fresh_venue 0 s.messages bs, ← h.so.venue) (dealt-append h.dealt (does-step s.venue (suc s.done) bs));
}

pub crosses-respect : CrossesRespect
crosses-respect o cs = (all_keep Respected (λ s h. (sound-out s.venue h.so.sound.venue).ranged) start-respected more-respected o cs).dealt
