-- Closing gaps keeps the invariant and every account, and leaves no gap.
use mathlib.Core.Path.{◌∙◌, ◌≡◌, refl}
use mathlib.Core.Bool.{true}
use Prim.Native.Nat.{◌<◌, ℕ}
use native.Mathlib.Decide.{dec_lt}
use native.Mathlib.Omega.{arith}
use Rattle.rules.specs.declared.Complex.{Complex}
use Rattle.rules.specs.declared.Legging.{Legging}
use Rattle.rules.specs.declared.Venue.{Venue}
use Rattle.rules.specs.Base.{held}
use Rattle.rules.specs.Words.{no_complex, no_regular, with_complex, with_regular}
use Rattle.rules.specs.Places.{blank_complex, blank_regular, close_gaps, holds_complex, holds_regular}
use Rattle.rules.specs.Sums.{open_complex, open_regular}
use Rattle.rules.proofs.Closing.{from-rises, length-packed, packed-dense, packed-free, to, verdict-closed}
use Rattle.rules.proofs.Filling.{cx, held-fits_c, lg}
use Rattle.rules.proofs.Gaps.{closed-open, closed-open_c, fc, fr, goes_to, was, was_c}
use Rattle.rules.proofs.Generating.{AllStand}
use Rattle.rules.proofs.Ledger.{ComplexId, RegularId}
use Rattle.rules.proofs.Tests.{held-pos, pos-held}
use Rattle.demands.proofs.Homes.{Fine, Good, Home, Homes, Tidy}

module _ (v : Venue) where
  abbrev w : Venue
  w = close_gaps v

  -- two places that were one are one
  injective : (f : ℕ → ℕ) → ((i j : ℕ) → i < j → f i < f j) → (i j : ℕ) → f i ≡ f j → i ≡ j
  injective f r i j e = elim (dec_lt i j) [
    | yes p ↦ let z = r i j p in absurd (omega arith)
    | no p ↦ elim (dec_lt j i) [ yes q ↦ let z = r j i q in absurd (omega arith) | no q ↦ omega arith ]
  ]

  one : (i j : ℕ) → fr v i ≡ fr v j → i ≡ j
  one = injective (fr v) (from-rises holds_regular no_regular v.regular)

  one_c : (i j : ℕ) → fc v i ≡ fc v j → i ≡ j
  one_c = injective (fc v) (from-rises holds_complex no_complex v.complex)

  pub closed-tidy : Tidy w
  unfolding close_gaps with_regular with_complex blank_regular blank_complex
  closed-tidy = record {
    dense1 = packed-dense holds_regular no_regular refl v.regular;
    dense2 = packed-dense holds_complex no_complex refl v.complex;
    blank1 = λ i h. rw (packed-free holds_regular no_regular v.regular i h);
    blank2 = λ i h. rw (packed-free holds_complex no_complex v.complex i h);
  }

  pub closed-good : Good v → Good w
  closed-good g = record {
    len1 = unfold close_gaps with_regular with_complex in (length-packed holds_regular no_regular v.regular ∙ g.len1);
    len2 = unfold close_gaps with_regular with_complex in (length-packed holds_complex no_complex v.complex ∙ g.len2);
    ranges = λ j h. rw (was_c v) (g.ranges (fc v j) (rw (was_c v) at h));
    rise1 = λ i j q h k. rw (was v i, was v j) (g.rise1 (fr v i) (fr v j) (from-rises holds_regular no_regular v.regular i j q) (rw (was v) at h) (rw (was v) at k));
    rise2 = λ i j q h k. rw (was_c v i, was_c v j) (g.rise2 (fc v i) (fc v j) (from-rises holds_complex no_complex v.complex i j q) (rw (was_c v) at h) (rw (was_c v) at k));
    rx = λ i j h k e. g.rx (fr v i) (fc v j) (rw (was v) at h) (rw (was_c v) at k) (rw (was v i, was_c v j) at e);
    rlast = λ i h. unfold close_gaps with_regular with_complex in (rw (was v i) (g.rlast (fr v i) (rw (was v) at h)));
    xlast = λ j h. unfold close_gaps with_regular with_complex in (rw (was_c v j) (g.xlast (fc v j) (rw (was_c v) at h)));
  }

  -- the parent of a legging order has moved
  home-closed : (n : ℕ) (l : Legging) → held l.quantity ≡ true → Home v n l → Home w n l
  home-closed n l t h =
      let z = held-pos l.quantity t in
      let e = h.enough in
      let hc : held (cx v h.at).quantity ≡ true = pos-held (cx v h.at).quantity (omega arith) in
      let there = goes_to v h.at hc in
      record {
        at = to holds_complex no_complex v.complex h.at;
        fits = held-fits_c w.complex _ (rw there hc);
        id = rw there h.id;
        leg = rw there h.leg;
        even = rw there h.even;
        enough = rw there h.enough;
      }

  pub closed-homes : Homes v → Homes w
  unfolding close_gaps with_regular with_complex
  closed-homes h = record { len = h.len; home = λ n t. home-closed n (lg v n) t (h.home n t) }

  pub closed-fine : Fine v → Fine w
  closed-fine f = record { good = closed-good f.good; homes = closed-homes f.homes }

  pub closed-stand : AllStand v → AllStand w
  unfolding AllStand
  closed-stand a i = verdict-closed v i _ ∙ (unfold close_gaps with_regular with_complex in a i)

  pub closed-reg : {y s : ℕ} → RegularId y s v → RegularId y s w
  closed-reg r = record {
    home = λ i h e. rw (was v i) (r.home (fr v i) (rw (was v) at h) (rw (was v i) at e));
    alone = λ i j h k e q. one i j (r.alone (fr v i) (fr v j) (rw (was v) at h) (rw (was v) at k) (rw (was v i) at e) (rw (was v j) at q));
    none = λ j h e. r.none (fc v j) (rw (was_c v) at h) (rw (was_c v j) at e);
  }

  pub closed-cx : {m : Complex} → ComplexId m v → ComplexId m w
  closed-cx r = record {
    home = λ j h e. rw (was_c v j) (r.home (fc v j) (rw (was_c v) at h) (rw (was_c v j) at e));
    alone = λ i j h k e q. one_c i j (r.alone (fc v i) (fc v j) (rw (was_c v) at h) (rw (was_c v) at k) (rw (was_c v i) at e) (rw (was_c v j) at q));
    none = λ i h e. r.none (fr v i) (rw (was v) at h) (rw (was v i) at e);
  }

-- From the venue that a message's effects left to the one that is returned --------------------

pub record Ends (v w : Venue) : Type 0 where
  pub last : w.last ≡ v.last
  pub open_r : (y : ℕ) → open_regular y w.regular ≡ open_regular y v.regular
  pub open_c : (y : ℕ) → open_complex y w.complex ≡ open_complex y v.complex
  pub regs : (y s : ℕ) → RegularId y s v → RegularId y s w
  pub cxs : (m : Complex) → ComplexId m v → ComplexId m w
  pub fine : Fine w
  pub stand : AllStand w
  pub tidy : Tidy w

-- a refused message leaves the venue as it is
pub ends-here : {v : Venue} → Fine v → AllStand v → Tidy v → Ends v v
ends-here f st t = record {
  last = refl;
  open_r = λ y. refl;
  open_c = λ y. refl;
  regs = λ y s r. r;
  cxs = λ m r. r;
  fine = f;
  stand = st;
  tidy = t;
}

-- an accepted one has its gaps closed
pub ends-closed : (v : Venue) → Fine v → AllStand v → Ends v (close_gaps v)
ends-closed v f st = record {
  last = unfold close_gaps with_regular with_complex in refl;
  open_r = closed-open v;
  open_c = closed-open_c v;
  regs = λ y s r. closed-reg v r;
  cxs = λ m r. closed-cx v r;
  fine = closed-fine v f;
  stand = closed-stand v st;
  tidy = closed-tidy v;
}
