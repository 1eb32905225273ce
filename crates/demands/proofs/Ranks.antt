-- Which orders go does not turn on the rank of causes: of the four tests, and then place by place.
use Rattle.std.specs.Prelude.{if◌then◌else◌}
use mathlib.Core.Path.{◌≡◌, ap, refl}
use mathlib.Core.Bool.{Bool, false, not, true}
use mathlib.Core.List.{List, [], ◌++◌, ◌∷◌, map}
use Prim.Native.Nat.{◌%◌, ◌/◌, suc, ℕ}
use Rattle.rules.specs.declared.Cause.TheVariants.{NotOpen, OutOfBand, Unpaired, Worse}
use Rattle.rules.specs.declared.Complex.{Complex}
use Rattle.rules.specs.declared.Legging.{Legging}
use Rattle.rules.specs.declared.Venue.{Venue}
use Rattle.rules.specs.declared.Verdict.{Verdict}
use Rattle.rules.specs.declared.Verdict.TheVariants.{Fails, Stands}
use Rattle.rules.specs.Base.{held}
use Rattle.rules.specs.Words.{with_legging}
use Rattle.rules.specs.Records.{Report, removed}
use Rattle.rules.specs.Prices.{in_band}
use Rattle.rules.specs.Removal.{goes, leavers, remove, stay, stayers}
use Rattle.rules.specs.Standing.{both_open, pairs, parent_of, settle, show_again, displayed_no_worse, stands, verdict, verdict_of}
use Rattle.rules.proofs.Verdicts.{ladder}
use Rattle.demands.specs.Ranks.{Unaffected, former_settle, former_verdict, former_verdict_of, left_band, recaused, retold}

-- One place -----------------------------------------------------------------------------------

module _ (v : Venue) where
  -- a former verdict on an order of the complex order with an id, as it is now
  abbrev revised : (id : ℕ) → Verdict → Verdict
  revised id Stands = Stands
  revised id (Fails c) = Fails (recaused v id c)

  -- by the four tests: price shown, band, pairing, open
  ranks : (id : ℕ) (a b p o : Bool) → left_band v id ≡ not b →
      ladder a b p o
      ≡ revised id (if not a then Fails Worse else if not p then Fails Unpaired else if not b then Fails OutOfBand else if not o then Fails NotOpen else Stands)
  unfolding recaused
  ranks id false b p o e = refl
  ranks id true true true true e = refl
  ranks id true true true false e = refl
  ranks id true true false o e = rw e
  ranks id true false true o e = refl
  ranks id true false false o e = rw e

  verdict-revised : (n : ℕ) (l : Legging) → verdict v n l ≡ revised l.parent (former_verdict v n l)
  unfolding verdict verdict_of former_verdict former_verdict_of left_band parent_of
  verdict-revised n l = go (held l.quantity) (parent_of v l) refl
    where
      go : (h : Bool) (c : Complex) → left_band v l.parent ≡ not (in_band v c c.limit) →
          (if h then verdict_of v c (n / 2) (n % 2) l else Stands)
          ≡ revised l.parent (if h then former_verdict_of v c (n / 2) (n % 2) l else Stands)
      go true c e =
          ranks l.parent (displayed_no_worse v (n / 2) (n % 2) l.price) (in_band v c c.limit) (pairs v c (n / 2) (n % 2) l.price l.quantity) (both_open v c) e
      go false c e = refl

  revised-stands : (id : ℕ) (x : Verdict) → stands (revised id x) ≡ stands x
  unfolding stands
  revised-stands id Stands = refl
  revised-stands id (Fails c) = refl

  revised-stay : (id : ℕ) (x : Verdict) (l : Legging) → stay (revised id x) l ≡ stay x l
  unfolding stay
  revised-stay id Stands l = refl
  revised-stay id (Fails c) l = refl

  revised-goes : (n : ℕ) (x : Verdict) (l : Legging) → goes n (revised l.parent x) l ≡ map (retold v) (goes n x l)
  unfolding goes retold
  revised-goes n Stands l = refl
  revised-goes n (Fails c) l = go (held l.quantity)
    where
      go : (h : Bool) →
          (if h then removed l.parent (n / 2) (n % 2) (recaused v l.parent c) ∷ [] else [])
          ≡ map (retold v) (if h then removed l.parent (n / 2) (n % 2) c ∷ [] else [])
      go true = refl
      go false = refl

  -- All places ----------------------------------------------------------------------------------

  map-append : (a b : List Report) → map (retold v) (a ++ b) ≡ map (retold v) a ++ map (retold v) b
  map-append [] b = refl
  map-append (r ∷ rs) b = ap (λ (l : List Report). retold v r ∷ l) (map-append rs b)

  same-stayers : (n : ℕ) (ls : List Legging) → stayers (verdict v) n ls ≡ stayers (former_verdict v) n ls
  unfolding stayers
  same-stayers n [] = refl
  same-stayers n (l ∷ ls) = rw (verdict-revised n l, revised-stay, same-stayers (suc n) ls)

  same-leavers : (n : ℕ) (ls : List Legging) → leavers (verdict v) n ls ≡ map (retold v) (leavers (former_verdict v) n ls)
  unfolding leavers
  same-leavers n [] = refl
  same-leavers n (l ∷ ls) = rw (verdict-revised n l, revised-goes, map-append, same-leavers (suc n) ls)

same-venue : (v : Venue) → (settle v).venue ≡ (former_settle v).venue
unfolding settle former_settle remove
same-venue v = let w = show_again v in ap (with_legging w) (same-stayers w 0 w.legging)

same-reports : (v : Venue) → (settle v).reports ≡ map (retold (show_again v)) (former_settle v).reports
unfolding settle former_settle remove
same-reports v = let w = show_again v in same-leavers w 0 w.legging

pub unaffected : Unaffected
unaffected = record {
  passes = λ v n l. rw (verdict-revised v n l) (revised-stands v _ _);
  venue = same-venue;
  reports = same-reports;
}
