-- The laws of a run: one turn of it, its loop, and its end.
use mathlib.Core.Path.{◌≡◌, refl, sym, ap, ap₂, subst, ◌∙◌}
use mathlib.Core.Bool.{Bool, true, false}
use mathlib.Core.List.{List, ◌++◌}
use Prim.Native.Nat.{ℕ, suc, ◌+◌, ◌-◌, ◌≤◌, ◌<◌, zero-le}
use native.Mathlib.Omega.{arith}
use native.Mathlib.Numerals.{add-one}
use lib.ListN.{length, take, drop, replicate, length-drop, drop_of_length-le}
use lib.Seq.{drop-drop}
use borrow.Rule.Slice.PartMut.{put_mid}
use Rattle.rules.specs.declared.Venue.{Venue}
use Rattle.rules.specs.Words.{fresh_venue}
use Rattle.rules.specs.Bytes.{length_field}
use Rattle.rules.specs.Records.{Report, encode_all}
use Rattle.rules.specs.Refusals.{torn}
use Rattle.rules.specs.Step.{StepOutcome, answered, step}
use Rattle.rules.specs.Calls.{Outcome, exceeds, ends, after, run_from, run}
use Rattle.rules.proofs.CallsLaws.{no_number, no_room, not-exceeds, run-full, run-torn, run_on, run_none}
use Rattle.rules.proofs.RefusalsLaws.{whole}
use Rattle.demands.specs.Soundness.{SoundAt}
use Rattle.demands.proofs.Calls.{stays-sound, fresh-sound}
use Rattle.records.proofs.SeenLaws.{part-all}
use Rattle.reader.specs.declared.Head.{Head}
use Rattle.reader.specs.Head.{head_at, head_number, head_length}
use Rattle.reader.proofs.Heads.{head-torn, head-message, torn-refused, whole-refused}
use Rattle.places.specs.Layout.{size, venue_of, Dense, Loaded}
use Rattle.answers.specs.declared.Stepped.{Stepped}
use Rattle.messages.specs.Tries.{Tries}
use Rattle.engine.specs.declared.RunProgress.{RunProgress}
use Rattle.engine.specs.Runs.{goes_on, Advances, call_of}
use Rattle.engine.proofs.Proceeding.{goes-on, goes-not, turn-ends, too_long, venue-kept, front_kept, length-is, venue-is, turn-does, Sofar}
use Rattle.engine.proofs.Proceeding.{sofar-start, sofar-as, sofar-turn, Ended, sofar-ends, ended-call}

-- A turn --------------------------------------------------------------------------------------

-- no number is left for the message
pub turn-no-number : (t : RunProgress) (m b l : List ℕ) → t.at < length m → t.written ≤ length l → Dense b → SoundAt (suc t.done) (venue_of b) → t.done ≡ 4294967295 →
    Advances m t b l (record { number = 10; done = t.done; at = t.at; written = t.written }) b l
turn-no-number t m b l a w d s e =
    record {
      turned = λ fuel. turn-ends _ _ 10 t.done t.written l b l (λ z. omega arith) w refl
          (run-full fuel (venue_of b) t.done (length l - t.written) (drop t.at m) (rw length-drop (omega arith))
          (no_number (suc t.done) (length l - t.written) _ (omega arith)));
      moved = λ z. absurd (omega arith);
      dense = d;
      sound = s;
    }

-- the message was tried: r is what was returned, and ys what is left of the report from t's position on
module _ (t : RunProgress) (m b₀ b l ys : List ℕ) (r : Stepped) (a : t.at < length m) (w : t.written ≤ length l) (s : SoundAt (suc t.done) (venue_of b₀)) (d : t.done < 4294967295)
    (tries : Tries (step (venue_of b₀) (t.done + 1) (take (length m - t.at) (drop t.at m))) b₀ (take (length l - t.written) (drop t.written l)) r b ys) where
  abbrev bs : List ℕ
  bs = drop t.at m

  abbrev v : Venue
  v = venue_of b₀

  abbrev done : StepOutcome
  done = step v (suc t.done) bs

  abbrev rs : List Report
  rs = done.effect.reports

  abbrev room : ℕ
  room = length l - t.written

  abbrev back : List ℕ
  back = put_mid t.written room l ys

  done-is : step v (t.done + 1) (take (length m - t.at) (drop t.at m)) ≡ done
  done-is = ap₂ (step v) (add-one t.done) (part-all m t.at)

  tried : Tries done b₀ (take room (drop t.written l)) r b ys
  tried = rw done-is at tries

  some : 0 < length bs
  some = rw length-drop (omega arith)

  -- the records do not fit
  pub turn-no-room : length l - t.written < r.written → Advances m t b₀ l (record { number = 10; done = t.done; at = t.at; written = t.written }) b back
  turn-no-room h =
      let same = venue-kept done t.written b₀ b l ys r w tried h in
      record {
        turned = λ fuel. turn-ends _ _ 10 t.done t.written l b back (λ z. omega arith) w (front_kept done t.written b₀ b l ys r w tried h)
            (run-full fuel v t.done room bs some (no_room (suc t.done) room rs (omega arith) (too_long done t.written b₀ b l ys r w tried h))
            ∙ ap (ends 10) (sym same));
        moved = λ z. absurd (omega arith);
        dense = tried.dense;
        sound = rw same s;
      }

  -- they do
  module _ (h : r.written ≤ length l - t.written) where
    roomy : exceeds (suc t.done) room rs ≡ false
    roomy = let n = length-is done t.written b₀ b l ys r w tried h in not-exceeds (suc t.done) room rs (omega arith) (omega arith)

    same-venue : venue_of b ≡ done.effect.venue
    same-venue = venue-is done t.written b₀ b l ys r w tried h

    sound-still : SoundAt (suc (t.done + 1)) (venue_of b)
    sound-still = rw (same-venue, add-one t.done) (stays-sound v (suc t.done) (omega arith) s bs)

    -- what is torn ends the run
    turn-torn : torn bs ≡ true → (n : ℕ) → Advances m t b₀ l (record { number = 1; done = t.done + 1; at = t.at + n; written = t.written + r.written }) b back
    unfolding step answered
    turn-torn e n =
        record {
          turned = λ fuel. turn-does done t.written b₀ b l ys r w tried h _ _ 1 t.done (t.done + 1) (add-one t.done)
              (run-torn fuel v t.done room bs some roomy (torn-refused v bs e)
              ∙ ap (after done.effect) (ap (ends 1) (sym same-venue) ∙ sym (goes-not 1 (venue_of b) _ (λ z. omega arith))));
          moved = λ z. absurd (omega arith);
          dense = tried.dense;
          sound = sound-still;
        }

    -- after a message that is whole it goes on
    turn_more : torn bs ≡ false → Advances m t b₀ l (record { number = 0; done = t.done + 1; at = t.at + length_field bs; written = t.written + r.written }) b back
    unfolding step answered
    turn_more e =
        let g = whole bs e in
        let least = g.0 in
        let most = g.1 in
        let k = length-drop t.at m in
        let left : room - length (encode_all rs) ≡ length l - (t.written + r.written) = (let q = length-is done t.written b₀ b l ys r w tried h in omega arith) in
        let rest : drop (length_field bs) bs ≡ drop (t.at + length_field bs) m = drop-drop (length_field bs) t.at m in
        record {
          turned = λ fuel. turn-does done t.written b₀ b l ys r w tried h _ _ 0 t.done (t.done + 1) (add-one t.done)
              (run_on fuel v t.done room bs some roomy (whole-refused v bs e)
              ∙ ap (after done.effect)
              (ap₂ (λ (x : Venue) (j : ℕ). run_from fuel x j (room - length (encode_all rs)) (drop (length_field bs) bs)) (sym same-venue) (sym (add-one t.done))
              ∙ ap₂ (λ (j : ℕ) (x : List ℕ). run_from fuel (venue_of b) (t.done + 1) j x) left rest
              ∙ sym (goes-on 0 (venue_of b) _ refl)));
          moved = λ _. (omega arith, omega arith, add-one t.done);
          dense = tried.dense;
          sound = sound-still;
        }

    -- what stood at the position tells which
    pub turn-done : (h : Head) → h ≡ head_at m t.at → (x n : ℕ) → x ≡ head_number h → n ≡ head_length h →
        Advances m t b₀ l (record { number = x; done = t.done + 1; at = t.at + n; written = t.written + r.written }) b back
    turn-done h e x n x-is n-is = go (torn bs) refl
      where
        go : (f : Bool) → torn bs ≡ f → Advances m t b₀ l (record { number = x; done = t.done + 1; at = t.at + n; written = t.written + r.written }) b back
        go true f = let k = e ∙ head-torn bs some f in rw (x-is ∙ ap head_number k) (turn-torn f n)
        go false f = let k = e ∙ head-message bs some f in rw (x-is ∙ ap head_number k, n-is ∙ ap head_length k) (turn_more f)

-- The loop ------------------------------------------------------------------------------------

-- the whole run, and what is left of it at a turn
abbrev whole_run : (m l₀ : List ℕ) → Outcome
whole_run m l₀ = run_from (length m) fresh_venue 0 (length l₀) m

abbrev left_run : (m l₀ b : List ℕ) (t : RunProgress) → Outcome
left_run m l₀ b t = run_from (length m - t.done) (venue_of b) t.done (length l₀ - t.written) (drop t.at m)

pub record Running (m l₀ b l : List ℕ) (t : RunProgress) : Type 0 where
  pub sofar : Sofar (whole_run m l₀) l₀ b l t.number t.done t.written (left_run m l₀ b t)
  pub going : t.number ≡ 0
  pub count : t.done ≤ t.at
  pub at_in : t.at ≤ length m
  pub dense : Dense b
  pub sound : SoundAt (suc t.done) (venue_of b)

abbrev pub RunEnded : (m l₀ b l : List ℕ) (t : RunProgress) → Type 0
RunEnded m l₀ b l t = Ended (whole_run m l₀) l₀ b l t.number t.done t.written

module _ (m l₀ b l : List ℕ) (t : RunProgress) (g : Running m l₀ b l t) where
  -- the messages are at an end
  pub running-end : length m ≤ t.at → RunEnded m l₀ b l t
  running-end h =
      sofar-ends (whole_run m l₀) l₀ b l t.number t.done t.written (left_run m l₀ b t)
      (goes-on t.number (venue_of b) (left_run m l₀ b t) g.going
      ∙ ap (run_from (length m - t.done) (venue_of b) t.done (length l₀ - t.written)) (drop_of_length-le m {i = t.at} h)
      ∙ run_none (length m - t.done) (venue_of b) t.done (length l₀ - t.written)
      ∙ ap (λ (k : ℕ). ends k (venue_of b)) (sym g.going))
      g.sofar

  module _ (r : RunProgress) (b' l' : List ℕ) (ahead : t.at < length m) (slice : length b' ≡ length b) (same : length l' ≡ length l) (turn : Advances m t b l r b' l') where
    -- one turn more, with the fuel that is left
    turned : (fuel : ℕ) → length m - t.done ≡ suc fuel →
        Sofar (whole_run m l₀) l₀ b' l' r.number r.done r.written (run_from fuel (venue_of b') r.done (length l - r.written) (drop r.at m))
    turned fuel f =
        sofar-turn (whole_run m l₀) l₀ b l t.number t.done t.written _
        (sofar-as (whole_run m l₀) l₀ b l t.number t.done t.written (left_run m l₀ b t) _
        (ap (goes_on t.number (venue_of b)) (ap₂ (λ (x y : ℕ). run_from x (venue_of b) t.done (y - t.written) (drop t.at m)) f (sym g.sofar.len)))
        g.sofar)
        g.going r.number r.done r.written b' l' _ slice same (turn.turned fuel)

    fuel-left : length m - t.done ≡ suc (length m - suc t.done)
    fuel-left = let c = g.count in omega arith

    pub running-again : r.number ≡ 0 → Running m l₀ b' l' r
    running-again z =
        let v = turn.moved z in
        let p = v.0 in
        let d = v.2 in
        let c = g.count in
        record {
          sofar = sofar-as (whole_run m l₀) l₀ b' l' r.number r.done r.written _ (left_run m l₀ b' r)
              (ap (goes_on r.number (venue_of b'))
              (ap₂ (λ (x y : ℕ). run_from (length m - x) (venue_of b') r.done (y - r.written) (drop r.at m)) (sym d) g.sofar.len))
              (turned (length m - suc t.done) fuel-left);
          going = z;
          count = omega arith;
          at_in = v.1;
          dense = turn.dense;
          sound = turn.sound;
        }

    pub running-stop : (r.number ≡ 0 → ⊥) → RunEnded m l₀ b' l' r
    running-stop z =
        sofar-ends (whole_run m l₀) l₀ b' l' r.number r.done r.written _ (goes-not r.number (venue_of b') _ z) (turned (length m - suc t.done) fuel-left)

-- a run begins with the numbers of a fresh venue
pub running-start : (m b l : List ℕ) → length b ≡ size → Loaded fresh_venue b → Running m l b l (record { number = 0; done = 0; at = 0; written = 0 })
running-start m b l n f =
    let p : length m ≡ length m - 0 = omega arith in
    let q : length l ≡ length l - 0 = omega arith in
    record {
      sofar = sofar-as (whole_run m l) l b l 0 0 0 (whole_run m l) _
          (ap (goes_on 0 (venue_of b))
          (ap₂ (λ (x y : ℕ). run_from x fresh_venue 0 y m) p q ∙ ap (λ (v : Venue). run_from (length m - 0) v 0 (length l - 0) m) (sym f.venue)))
          (sofar-start (whole_run m l) l b n);
      going = refl;
      count = zero-le;
      at_in = zero-le;
      dense = f.dense;
      sound = subst (SoundAt 1) (sym f.venue) fresh-sound;
    }

-- the rest of the report zeroed, and the venue read
pub ran : (m l₀ b l z : List ℕ) (t : RunProgress) (v : Venue) → RunEnded m l₀ b l t → z ≡ take t.written l ++ replicate (length l - t.written) 0 → v ≡ venue_of b →
    call_of (record { number = t.number; done = t.done; written = t.written; venue = v }) z ≡ run (length l₀) m
unfolding run
ran m l₀ b l z t v d e u = ended-call (whole_run m l₀) l₀ b l t.number t.done t.written z v d e u
