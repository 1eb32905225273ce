-- A call that goes on in turns: one turn, the records so far, and its end.
use mathlib.Core.Path.{◌≡◌, refl, sym, ap, ap₂, ◌∙◌}
use mathlib.Core.List.{List, [], ◌++◌, append_assoc, append-nil}
use Prim.Native.Nat.{ℕ, suc, ◌+◌, ◌-◌, ◌≤◌, ◌<◌, zero-le}
use native.Mathlib.Omega.{arith}
use lib.Dec.{eqb}
use lib.ListN.{length, take, drop, replicate, length-drop}
use lib.Seq.{length-take-le}
use borrow.Author.Tests.{eq-eqb, ne_eqb}
use borrow.Rule.Slice.PartMut.{put_mid}
use Rattle.rules.specs.declared.Venue.{Venue}
use Rattle.rules.specs.Records.{Report, encode_all, sheet}
use Rattle.rules.specs.Step.{StepOutcome}
use Rattle.rules.specs.Calls.{Outcome, called, ends, after}
use Rattle.rules.proofs.CallsLaws.{encode-append}
use Rattle.rules.proofs.Tests.{if-same}
use Rattle.records.proofs.SeenLaws.{wrote, overflowed, pasted-to, part-all, tail-front, tail_more}
use Rattle.places.specs.Layout.{size, venue_of}
use Rattle.answers.specs.declared.Stepped.{Stepped}
use Rattle.messages.specs.Tries.{Tries}
use Rattle.engine.specs.Runs.{onto, goes_on, Turned, call_of}

-- An outcome after messages and their records -------------------------------------------------

onto-none : (j k : ℕ) (v : Venue) → j ≡ 0 → ends k v ≡ onto j [] (ends k v)
unfolding onto ends
onto-none j k v e = rw e

onto-one : (j : ℕ) (e : Venue) (rs : List Report) (o : Outcome) → j ≡ 1 → after (record { venue = e; reports = rs }) o ≡ onto j rs o
unfolding onto after
onto-one j e rs o p =
    let z : suc o.done ≡ j + o.done = omega arith in
    ap (λ (i : ℕ). record { number = o.number; done = i; venue = o.venue; reports = rs ++ o.reports }) z

onto-zero : (o : Outcome) → o ≡ onto 0 [] o
unfolding onto
onto-zero o =
    let z : o.done ≡ 0 + o.done = omega arith in
    ap (λ (j : ℕ). record { number = o.number; done = j; venue = o.venue; reports = o.reports }) z

onto-onto : (j k : ℕ) (a b : List Report) (o : Outcome) → onto j a (onto k b o) ≡ onto (j + k) (a ++ b) o
unfolding onto
onto-onto j k a b o =
    let e : j + (k + o.done) ≡ j + k + o.done = omega arith in
    rw (e, append_assoc a b o.reports)

-- How it goes on ------------------------------------------------------------------------------

module _ (k : ℕ) (v : Venue) where
  pub goes-on : (rest : Outcome) → k ≡ 0 → goes_on k v rest ≡ rest
  unfolding goes_on
  goes-on rest e = rw (eq-eqb k 0 e)

  pub goes-not : (rest : Outcome) → (k ≡ 0 → ⊥) → goes_on k v rest ≡ ends k v
  unfolding goes_on
  goes-not rest e = rw (ne_eqb k 0 e)

  goes-ended : goes_on k v (ends k v) ≡ ends k v
  unfolding goes_on
  goes-ended = if-same (eqb k 0) (ends k v)

-- A turn --------------------------------------------------------------------------------------

-- nothing more is done
pub turn-ends : (before rest : Outcome) (k done written : ℕ) (l₀ b l : List ℕ) → (k ≡ 0 → ⊥) → written ≤ length l₀ → take written l ≡ take written l₀ →
    before ≡ ends k (venue_of b) → Turned before done written l₀ k done written b l rest
unfolding encode_all
turn-ends before rest k done written l₀ b l z w front e =
    record {
      records = [];
      bytes = front ∙ sym (append-nil (take written l₀));
      within = w;
      counted = omega arith;
      is = e ∙ onto-none (done - done) k (venue_of b) (omega arith) ∙ ap (onto (done - done) []) (sym (goes-not k (venue_of b) rest z));
    }

-- a message was tried with what is left of the report from a position on: r is what was returned, and ys what that part then holds
module _ (a : StepOutcome) (at : ℕ) (b₀ b l ys : List ℕ) (r : Stepped) (w : at ≤ length l) (tries : Tries a b₀ (take (length l - at) (drop at l)) r b ys) where
  abbrev rs : List Report
  rs = a.effect.reports

  abbrev lent : List ℕ
  lent = take (length l - at) (drop at l)

  abbrev back : List ℕ
  back = put_mid at (length l - at) l ys

  lent_length : length lent ≡ length l - at
  lent_length = ap length (part-all l at) ∙ length-drop at l

  -- its records do not fit
  module _ (h : length l - at < r.written) where
    pub too_long : length l - at < length (encode_all rs)
    too_long = let n = lent_length in let z = overflowed lent ys 0 r.written rs tries.written (omega arith) in omega arith

    pub venue-kept : venue_of b ≡ venue_of b₀
    venue-kept = let n = lent_length in tries.left (omega arith)

    pub front_kept : take at back ≡ take at l
    front_kept = tail-front l ys at w

  -- they do
  module _ (h : r.written ≤ length l - at) where
    fits : r.written ≤ length lent
    fits = let n = lent_length in omega arith

    pub length-is : r.written ≡ length (encode_all rs)
    length-is = let z : 0 + length (encode_all rs) ≡ length (encode_all rs) = omega arith in (wrote lent ys 0 r.written rs tries.written fits).end_is ∙ z

    pub venue-is : venue_of b ≡ a.effect.venue
    venue-is = tries.done fits

    bytes-are : take r.written ys ≡ encode_all rs
    bytes-are =
        let x = wrote lent ys 0 r.written rs tries.written fits in
        ap₂ take x.end_is x.memory-is ∙ pasted-to lent (encode_all rs) 0 zero-le

    pub turn-does : (before rest : Outcome) (number done done' : ℕ) → done' ≡ suc done → before ≡ after a.effect (goes_on number (venue_of b) rest) →
        Turned before done at l number done' (at + r.written) b back rest
    turn-does before rest number done done' one e =
        record {
          records = rs;
          bytes = tail_more l ys at r.written w ∙ ap (λ (x : List ℕ). take at l ++ x) bytes-are;
          within = omega arith;
          counted = omega arith;
          is = e ∙ onto-one (done' - done) a.effect.venue rs (goes_on number (venue_of b) rest) (omega arith);
        }

-- So far --------------------------------------------------------------------------------------

-- the records stand in the report, and the whole of the call is these and what is left to do
pub record Sofar (whole : Outcome) (l₀ b l : List ℕ) (number done written : ℕ) (rest : Outcome) : Type 0 where
  pub records : List Report
  pub slice : length b ≡ size
  pub len : length l ≡ length l₀
  pub within : written ≤ length l₀
  pub bytes : take written l ≡ encode_all records
  pub is : whole ≡ onto done records (goes_on number (venue_of b) rest)

pub sofar-start : (whole : Outcome) (l b : List ℕ) → length b ≡ size → Sofar whole l b l 0 0 0 whole
unfolding encode_all
sofar-start whole l b n =
    record {
      records = [];
      slice = n;
      len = refl;
      within = zero-le;
      bytes = refl;
      is = onto-zero whole ∙ ap (onto 0 []) (sym (goes-on 0 (venue_of b) whole refl));
    }

module _ (whole : Outcome) (l₀ b l : List ℕ) (number done written : ℕ) where
  -- what is left to do, said otherwise
  pub sofar-as : (rest rest' : Outcome) → goes_on number (venue_of b) rest ≡ goes_on number (venue_of b) rest' → Sofar whole l₀ b l number done written rest →
      Sofar whole l₀ b l number done written rest'
  sofar-as rest rest' e g =
      record { records = g.records; slice = g.slice; len = g.len; within = g.within; bytes = g.bytes; is = g.is ∙ ap (onto done g.records) e }

  -- one turn more
  pub sofar-turn : (rest : Outcome) → Sofar whole l₀ b l number done written rest → number ≡ 0 → (number' done' written' : ℕ) (b' l' : List ℕ) (rest' : Outcome) →
      length b' ≡ length b → length l' ≡ length l → Turned rest done written l number' done' written' b' l' rest' → Sofar whole l₀ b' l' number' done' written' rest'
  sofar-turn rest g going number' done' written' b' l' rest' slice same turn =
      let n = g.len in
      let w = turn.within in
      let c = turn.counted in
      let z : done + (done' - done) ≡ done' = omega arith in
      record {
        records = g.records ++ turn.records;
        slice = slice ∙ g.slice;
        len = same ∙ n;
        within = omega arith;
        bytes = turn.bytes ∙ ap (λ (x : List ℕ). x ++ encode_all turn.records) g.bytes ∙ sym (encode-append g.records turn.records);
        is =
            g.is ∙ ap (onto done g.records) (goes-on number (venue_of b) rest going ∙ turn.is)
            ∙ onto-onto done (done' - done) g.records turn.records (goes_on number' (venue_of b') rest')
            ∙ ap (λ (k : ℕ). onto k (g.records ++ turn.records) (goes_on number' (venue_of b') rest')) z;
      }

  -- The end: nothing is left to do
  abbrev pub Ended : Type 0
  Ended = Sofar whole l₀ b l number done written (ends number (venue_of b))

  pub sofar-ends : (rest : Outcome) → goes_on number (venue_of b) rest ≡ ends number (venue_of b) → Sofar whole l₀ b l number done written rest → Ended
  sofar-ends rest e = sofar-as rest (ends number (venue_of b)) (e ∙ sym (goes-ended number (venue_of b)))

  -- the rest of the report zeroed, and the venue read
  pub ended-call : (z : List ℕ) (v : Venue) → Ended → z ≡ take written l ++ replicate (length l - written) 0 → v ≡ venue_of b →
      call_of (record { number = number; done = done; written = written; venue = v }) z ≡ called (length l₀) whole
  unfolding called sheet onto ends
  ended-call z v d e u =
      let rs : List Report = d.records in
      let n = d.len in
      let w = d.within in
      let k : written ≡ length (encode_all rs) = sym (length-take-le written l (omega arith)) ∙ ap length d.bytes in
      let j : length l - written ≡ length l₀ - length (encode_all rs) = omega arith in
      let h : done ≡ done + 0 = omega arith in
      ap₂ (λ (x : Venue) (y : List ℕ). call_of (record { number = number; done = done; written = written; venue = x }) y) u
      (e ∙ ap₂ (λ (x : List ℕ) (i : ℕ). x ++ replicate i 0) d.bytes j)
      ∙ ap₂ (λ (x y : ℕ). call_of (record { number = number; done = x; written = y; venue = venue_of b }) (sheet (length l₀) rs)) h k
      ∙ ap (λ (x : List Report). call_of (record { number = number; done = done + 0; written = length (encode_all x); venue = venue_of b }) (sheet (length l₀) x)) (sym (append-nil rs))
      ∙ sym (ap (called (length l₀)) (d.is ∙ ap (onto done rs) (goes-ended number (venue_of b))))
