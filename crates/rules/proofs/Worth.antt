-- What a venue is worth: the bytes that the going of its orders still pays for. A regular order pays a when what it shows is gone, and b when all of it is:
-- the rates differ by what is done. An effect costs c where what it writes and what the venue left is worth come to at most what the venue was worth and c more.
use Rattle.std.specs.Prelude.{if◌then◌else◌}
use mathlib.Core.Path.{◌∙◌, ◌≡◌, refl, sym}
use mathlib.Core.Bool.{Bool, true, false, ◌&&◌}
use mathlib.Core.List.{List, [], ◌∷◌, map}
use mathlib.Core.Logic.{◌≢◌}
use Prim.Native.Nat.{ℕ, suc, ◌+◌, ◌-◌, ◌*◌, ◌/◌, ◌%◌, ◌≤◌, ◌<◌, min}
use native.Mathlib.Omega.{arith}
use native.Mathlib.Decide.{dec_le}
use lib.Dec.{eqb}
use lib.ListN.{length, length-append}
use Rattle.rules.specs.declared.Regular.{Regular}
use Rattle.rules.specs.declared.Complex.{Complex}
use Rattle.rules.specs.declared.Legging.{Legging}
use Rattle.rules.specs.declared.Venue.{Venue}
use Rattle.rules.specs.declared.Verdict.{Verdict}
use Rattle.rules.specs.declared.Verdict.TheVariants.{Stands, Fails}
use Rattle.rules.specs.Base.{held}
use Rattle.rules.specs.Words.{no_regular, no_complex, no_legging, regular_at, complex_at, one_to_one, with_regular, with_complex, with_legging}
use Rattle.rules.specs.Bytes.{bytes, framed}
use Rattle.rules.specs.Records.{Report, answer, trade, pair, generated, removed, crossed, cancelled, looked, encode, encode_all}
use Rattle.rules.specs.Effects.{Effect, nothing, report, ◌⟫◌}
use Rattle.rules.specs.Prices.{shown_size}
use Rattle.rules.specs.Removal.{stay, goes, stayers, leavers, remove}
use Rattle.rules.specs.Standing.{settle, show_again, shows_again, verdict}
use Rattle.rules.specs.Trading.{less_regular, less_complex, fill_regular, fill_complex, put_regular, put_complex}
use Rattle.rules.specs.Order.{at_once}
use Rattle.rules.specs.Generation.{placed}
use Rattle.rules.specs.Sums.{total}
use Rattle.rules.specs.Lengths.{record_length, per_complex, per_cross, per_legging}
use Rattle.rules.proofs.Filling.{filled-other}
use Rattle.rules.proofs.Adding.{total-append, total-then}
use Rattle.rules.proofs.Sizes.{once-left, once-shown, shown-lessens}
use Rattle.rules.proofs.Summing.{sum, due, due-most, worths-most, put-more, fill-less, fill-gone, fill-both}
use Rattle.rules.proofs.Tests.{held-pos}

-- Bytes ---------------------------------------------------------------------------------------

pub lengths : (r : Report) → length (encode r) ≡ record_length r
unfolding encode framed bytes record_length
lengths (answer number refusal mask count) = refl
lengths (trade series side price quantity taker maker) = refl
lengths (pair id n quantity) = refl
lengths (generated id series side price displayed quantity) = refl
lengths (removed id series side cause) = refl
lengths (crossed taker maker n quantity) = refl
lengths (cancelled id quantity) = refl
lengths (looked count) = refl

pub written : (rs : List Report) → length (encode_all rs) ≡ total record_length rs
unfolding encode_all total
written [] = refl
written (r ∷ rs) = rw (length-append (encode r) (encode_all rs), lengths r, written rs)

-- Worth ---------------------------------------------------------------------------------------

unfoldable pub of_shown : (a : ℕ) → Regular → ℕ
of_shown a o = due a (shown_size o)

unfoldable pub of_left : (b : ℕ) → Regular → ℕ
of_left b o = due b o.quantity

-- a complex order pays for a cross, and one that is one to one for more
unfoldable pub of_complex : Complex → ℕ
of_complex c = due per_cross c.quantity

-- what is open of an order that is one to one, and of another none
unfoldable pub even_open : Complex → ℕ
even_open c = if one_to_one c then c.quantity else 0

abbrev pub per_even : ℕ
per_even = 46

unfoldable pub of_even : Complex → ℕ
of_even c = due per_even (even_open c)

unfoldable pub of_legging : Legging → ℕ
of_legging l = due per_legging l.quantity

unfoldable pub worth : (a b : ℕ) → Venue → ℕ
worth a b v = sum (of_shown a) v.regular + sum (of_left b) v.regular + (sum of_complex v.complex + sum of_even v.complex) + sum of_legging v.legging

no-shown : shown_size no_regular ≡ 0
unfolding shown_size
no-shown = refl

no-even : even_open no_complex ≡ 0
unfolding even_open one_to_one
no-even = refl

even-lessens : (k : ℕ) (c : Complex) → even_open (less_complex k c) ≡ even_open c - k
unfolding even_open one_to_one less_complex
even-lessens k c = go (eqb c.ratio1 1 && eqb c.ratio2 1)
  where
    go : (b : Bool) → (if b then c.quantity - k else 0) ≡ (if b then c.quantity else 0) - k
    go true = refl
    go false = omega arith

pub of_complex-most : (c : Complex) → of_complex c ≤ per_cross
unfolding of_complex
of_complex-most c = due-most per_cross c.quantity

module _ (a b : ℕ) where
  -- regular and legging orders
  pub regular-most : (v : Venue) →
      sum (of_shown a) v.regular + sum (of_left b) v.regular + sum of_legging v.legging ≤ a * length v.regular + b * length v.regular + per_legging * length v.legging
  unfolding of_shown of_left of_legging
  regular-most v =
      let s = worths-most a shown_size no_regular no-shown v.regular in
      let r = worths-most b (λ (o : Regular). o.quantity) no_regular refl v.regular in
      let l = worths-most per_legging (λ (l : Legging). l.quantity) no_legging refl v.legging in
      omega arith

  pub worth-most : (v : Venue) →
      worth a b v ≤ a * length v.regular + b * length v.regular + per_complex * length v.complex + per_legging * length v.legging
  unfolding worth of_complex of_even
  worth-most v =
      let c = worths-most per_cross (λ (c : Complex). c.quantity) no_complex refl v.complex in
      let e = worths-most per_even even_open no_complex no-even v.complex in
      omega (arith, regular-most v)

  -- an order that is given a place adds at most its own worth
  pub put-worth : (i : ℕ) (o : Regular) (v : Venue) → worth a b (put_regular i o v) ≤ worth a b v + (a + b)
  unfolding worth put_regular with_regular of_shown of_left
  put-worth i o v =
      let s = put-more a shown_size no_regular no-shown i o v.regular in
      let z = put-more b (λ (x : Regular). x.quantity) no_regular refl i o v.regular in
      omega arith

  pub put_c-worth : (i : ℕ) (c : Complex) (v : Venue) → worth a b (put_complex i c v) ≤ worth a b v + per_complex
  unfolding worth put_complex with_complex of_complex of_even
  put_c-worth i c v =
      let z = put-more per_cross (λ (x : Complex). x.quantity) no_complex refl i c v.complex in
      let e = put-more per_even even_open no_complex no-even i c v.complex in
      omega arith

  pub placed-worth : (n : ℕ) (l : Legging) (v : Venue) → worth a b (placed n l v) ≤ worth a b v + per_legging
  unfolding worth placed with_legging of_legging
  placed-worth n l v = let z = put-more per_legging (λ (x : Legging). x.quantity) no_legging refl n l v.legging in omega arith

-- a fill adds no worth; where what an order shows is gone, or all of it, its worth goes
module _ (a b i k : ℕ) (v : Venue) where
  less-shown : sum (of_shown a) (fill_regular i k v).regular ≤ sum (of_shown a) v.regular
  unfolding fill_regular with_regular regular_at of_shown
  less-shown = fill-less a shown_size no_regular no-shown less_regular shown-lessens i k v.regular

  less-left : sum (of_left b) (fill_regular i k v).regular ≤ sum (of_left b) v.regular
  unfolding fill_regular with_regular regular_at of_left less_regular
  less-left = fill-less b (λ (x : Regular). x.quantity) no_regular refl less_regular (λ _ _. refl) i k v.regular

  pub fill-le : worth a b (fill_regular i k v) ≤ worth a b v
  unfolding worth
  fill-le = let x = less-shown in let y = less-left in unfold fill_regular with_regular in (omega arith)

  pub fill_shows : 0 < shown_size (regular_at v i) → shown_size (regular_at v i) ≤ k → worth a b (fill_regular i k v) + a ≤ worth a b v
  unfolding worth fill_regular with_regular regular_at of_shown
  fill_shows p q = let z = fill-gone a shown_size no_regular no-shown less_regular shown-lessens i k v.regular p q in let y = less-left in omega arith

  pub fill-frees : 0 < (regular_at v i).quantity → (regular_at v i).quantity ≤ k → worth a b (fill_regular i k v) + b ≤ worth a b v
  unfolding worth fill_regular with_regular regular_at of_left less_regular
  fill-frees p q = let z = fill-gone b (λ (x : Regular). x.quantity) no_regular refl less_regular (λ _ _. refl) i k v.regular p q in let y = less-shown in omega arith

-- two orders filled for the lesser of what the one has left and the other trades at once: the one is gone, or what the other traded
module _ (a b i k : ℕ) (v : Venue) where
  pub fills-free : (w : ℕ) → w ≤ a → w ≤ b → (j : ℕ) → i ≢ j → 0 < (regular_at v i).quantity → 0 < (regular_at v j).quantity →
      k ≡ min (regular_at v i).quantity (at_once (regular_at v j)) → worth a b (fill_regular j k (fill_regular i k v)) + w ≤ worth a b v
  fills-free w wa wb j ne p q e = go (dec_le (regular_at v i).quantity k) (held (shown_size (regular_at v j))) refl
    where
      x : worth a b (fill_regular i k v) ≤ worth a b v
      x = fill-le a b i k v

      y : worth a b (fill_regular j k (fill_regular i k v)) ≤ worth a b (fill_regular i k v)
      y = fill-le a b j k (fill_regular i k v)

      same : regular_at (fill_regular i k v) j ≡ regular_at v j
      same = unfold regular_at in (filled-other i k v j (λ e. ne (sym e)))

      go : Dec ((regular_at v i).quantity ≤ k) → (t : Bool) → held (shown_size (regular_at v j)) ≡ t → worth a b (fill_regular j k (fill_regular i k v)) + w ≤ worth a b v
      go (yes le) t h = let z = fill-frees a b i k v p le in omega (arith, y)
      go (no gt) true h =
          let s = once-shown (regular_at v j) h in
          let z = fill_shows a b j k (fill_regular i k v) (rw same (held-pos (shown_size (regular_at v j)) h)) (rw same (omega arith)) in
          omega (arith, x)
      go (no gt) false h =
          let s = once-left (regular_at v j) h in
          let z = fill-frees a b j k (fill_regular i k v) (rw same q) (rw same (omega arith)) in
          omega (arith, x)

module _ (a b i k : ℕ) (v : Venue) where
  less-open : sum of_complex (fill_complex i k v).complex ≤ sum of_complex v.complex
  unfolding fill_complex with_complex complex_at of_complex less_complex
  less-open = fill-less per_cross (λ (x : Complex). x.quantity) no_complex refl less_complex (λ _ _. refl) i k v.complex

  less-even : sum of_even (fill_complex i k v).complex ≤ sum of_even v.complex
  unfolding fill_complex with_complex complex_at of_even
  less-even = fill-less per_even even_open no_complex no-even less_complex even-lessens i k v.complex

  pub fill_c-le : worth a b (fill_complex i k v) ≤ worth a b v
  unfolding worth
  fill_c-le = let x = less-open in let y = less-even in unfold fill_complex with_complex in (omega arith)

  -- one that is one to one takes all its worth with it
  pub even-frees : one_to_one (complex_at v i) ≡ true → 0 < (complex_at v i).quantity → (complex_at v i).quantity ≤ k → worth a b (fill_complex i k v) + per_complex ≤ worth a b v
  unfolding worth fill_complex with_complex complex_at of_complex of_even less_complex
  even-frees e p q =
      let o : even_open (complex_at v i) ≡ (complex_at v i).quantity = unfold even_open complex_at in (rw e) in
      let z = fill-gone per_cross (λ (x : Complex). x.quantity) no_complex refl less_complex (λ _ _. refl) i k v.complex p q in
      let y = fill-gone per_even even_open no_complex no-even less_complex even-lessens i k v.complex (rw o p) (rw o q) in
      omega arith

module _ (a b i k : ℕ) (v : Venue) where
  pub fills_c-free : (j : ℕ) → 0 < (complex_at v i).quantity → 0 < (complex_at v j).quantity → k ≡ min (complex_at v i).quantity (complex_at v j).quantity →
      worth a b (fill_complex j k (fill_complex i k v)) + per_cross ≤ worth a b v
  unfolding worth
  fills_c-free j p q e =
      let x = less-even a b i k v in
      let y = less-even a b j k (fill_complex i k v) in
      unfold fill_complex with_complex complex_at of_complex less_complex in (
      let z = fill-both per_cross (λ (x : Complex). x.quantity) no_complex refl less_complex (λ _ _. refl) i j k v.complex p q e in omega arith)

-- Effects -------------------------------------------------------------------------------------

-- what an effect writes, with what the venue that it leaves is worth
unfoldable pub spent : (a b : ℕ) → Effect → ℕ
spent a b e = total record_length e.reports + worth a b e.venue

module _ (a b : ℕ) where
  pub spent-nothing : (v : Venue) → spent a b (nothing v) ≡ worth a b v
  unfolding spent nothing total
  spent-nothing v = omega arith

  pub spent-report : (r : Report) (v : Venue) → spent a b (report r v) ≡ record_length r + worth a b v
  unfolding spent report total
  spent-report r v = omega arith

  pub spent-then : (e : Effect) (f : Venue → Effect) → spent a b (e ⟫ f) + worth a b e.venue ≡ spent a b e + spent a b (f e.venue)
  unfolding spent
  spent-then e f = rw (total-then record_length e f) (unfold ◌⟫◌ in (omega arith))

-- a removal pays for itself
goes-pays : (n : ℕ) (x : Verdict) (l : Legging) → total record_length (goes n x l) + of_legging (stay x l) ≡ of_legging l
unfolding goes stay total record_length of_legging due
goes-pays n Stands l = omega arith
goes-pays n (Fails c) l = go (held l.quantity) refl
  where
    go : (b : Bool) → held l.quantity ≡ b →
        total record_length (if b then removed l.parent (n / 2) (n % 2) c ∷ [] else []) + (if held (if b then no_legging else l).quantity then per_legging else 0) ≡ (if b then per_legging else 0)
    go true e = refl
    go false e = rw e

leavers-pay : (f : ℕ → Legging → Verdict) (n : ℕ) (ls : List Legging) → total record_length (leavers f n ls) + sum of_legging (stayers f n ls) ≡ sum of_legging ls
unfolding leavers stayers sum total
leavers-pay f n [] = refl
leavers-pay f n (l ∷ ls) =
    let a = goes-pays n (f n l) l in
    let b = leavers-pay f (suc n) ls in
    rw (total-append record_length (goes n (f n l) l) (leavers f (suc n) ls)) (omega arith)

pub spent-remove : (a b : ℕ) (f : ℕ → Legging → Verdict) (v : Venue) → spent a b (remove f v) ≡ worth a b v
unfolding spent remove worth with_legging
spent-remove a b f v = let z = leavers-pay f 0 v.legging in omega arith

-- Settling: from then on regular orders pay for nothing -----------------------------------------

none-due : (f : Regular → ℕ) → ((o : Regular) → f o ≡ 0) → (os : List Regular) → sum f os ≡ 0
unfolding sum
none-due f z [] = refl
none-due f z (o ∷ os) = let x = z o in let y = none-due f z os in omega arith

due-nothing : (q : ℕ) → due 0 q ≡ 0
due-nothing q = let z = due-most 0 q in omega arith

no-regular : (os : List Regular) → (sum (of_shown 0) os ≡ 0) × (sum (of_left 0) os ≡ 0)
unfolding of_shown of_left
no-regular os = (none-due (λ o. due 0 (shown_size o)) (λ o. due-nothing (shown_size o)) os, none-due (λ o. due 0 o.quantity) (λ o. due-nothing o.quantity) os)

pub spent-lower : (a b : ℕ) (e : Effect) → spent 0 0 e ≤ spent a b e
unfolding spent worth
spent-lower a b e = let z = no-regular e.venue.regular in let x = z.0 in let y = z.1 in omega arith

pub spent-settle : (v : Venue) → spent 0 0 (settle v) ≡ worth 0 0 v
unfolding settle
spent-settle v = spent-remove 0 0 (verdict (show_again v)) (show_again v) ∙ again
  where
    again : worth 0 0 (show_again v) ≡ worth 0 0 v
    again = unfold worth show_again with_regular in (
        let z = no-regular v.regular in let x = z.0 in let y = z.1 in
        let z' = no-regular (map shows_again v.regular) in let x' = z'.0 in let y' = z'.1 in omega arith)
