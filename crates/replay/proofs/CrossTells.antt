-- A cross tells what it does, and respects the legs of both parties at its moment.
use mathlib.Core.Path.{◌∙◌, ◌≡◌, ap, refl, subst, sym}
use mathlib.Core.Bool.{false≢true, true}
use mathlib.Core.Logic.{◌≢◌}
use Prim.Native.Nat.{ℕ}
use lib.IntN.{neg_ℤ, neg_ℤ-neg_ℤ, ℤ}
use lib.Seq.{get_or-set_other}
use borrow.Author.Tests.{eq-eqb, eqb-true, ne_eqb}
use Rattle.rules.specs.declared.Complex.{Complex}
use Rattle.rules.specs.declared.Venue.{Venue}
use Rattle.rules.specs.Base.{held}
use Rattle.rules.specs.Words.{complex_at, is_complex_of, no_complex, opposite, with_complex}
use Rattle.rules.specs.Records.{crossed}
use Rattle.rules.specs.Removal.{remove_of}
use Rattle.rules.specs.Trading.{fill_complex}
use Rattle.rules.specs.Complex.{cross, cross_turn, crosses, respects_legs, reversed}
use Rattle.rules.proofs.Cases.{cross_turn-by}
use Rattle.rules.proofs.Crossing.{respects}
use Rattle.rules.proofs.Filling.{cx}
use Rattle.rules.proofs.Picking.{At}
use Rattle.rules.proofs.Tests.{and_l, and_r}
use Rattle.demands.specs.Crosses.{Respects}
use Rattle.demands.proofs.ComplexCarries.{opposite-not}
use Rattle.demands.proofs.Homes.{Fine}
use Rattle.replay.specs.Replay.{State, lessen_complex, next, noted}
use Rattle.replay.specs.Moments.{BothRespected}
use Rattle.replay.proofs.TellsLaws.{Any, Tells, TellsTurn, tells-report, tells-then}
use Rattle.replay.proofs.Placing.{tells-remove}
use Rattle.replay.proofs.Lessening.{Apart, apart-lasts, good-apart, lessen-complex}

-- an order is not its own reverse
reversed-not : (c : Complex) → c.series1 ≢ c.series2 → reversed c c ≡ true → ⊥
unfolding reversed
reversed-not c ne h =
    false≢true (rw (ne_eqb c.series1 c.series2 ne, ne_eqb c.side1 (opposite c.side1) (opposite-not _), eq-eqb c.series1 c.series1 refl) at h)

next-cross : (x y : ℕ) (n : ℤ) (q : ℕ) (v w : Venue) → lessen_complex y q (lessen_complex x q v) ≡ w → (a : State) → next (crossed x y n q) (noted a v) ≡ noted a w
unfolding next noted
next-cross x y n q v w e a = ap (noted a) e

module _ (i j k : ℕ) (v : Venue) (a : Apart v) (ne : j ≢ i) (hi : held (cx v i).quantity ≡ true) (hj : held (cx v j).quantity ≡ true) where
  same : cx (fill_complex i k v) j ≡ cx v j
  unfolding fill_complex with_complex
  same = get_or-set_other v.complex i j _ no_complex ne

  lessens-both : lessen_complex (cx v j).id k (lessen_complex (cx v i).id k v) ≡ fill_complex j k (fill_complex i k v)
  lessens-both =
      ap (lessen_complex (cx v j).id k) (lessen-complex v a i k hi)
      ∙ subst (λ (c : Complex). lessen_complex c.id k (fill_complex i k v) ≡ fill_complex j k (fill_complex i k v)) same
      (lessen-complex (fill_complex i k v) (apart-lasts.fill_c i k v a) j k (subst (λ (c : Complex). held c.quantity ≡ true) (sym same) hj))

  -- the order of an id is the one at its place
  only : (m : ℕ) → held (cx v m).quantity ≡ true → (n : ℕ) → is_complex_of (cx v m).id (complex_at v n) ≡ true → cx v m ≡ complex_at v n
  unfolding is_complex_of complex_at
  only m h n t =
      ap (cx v) (a.complexes m n h (and_l (held (cx v n).quantity) _ t) (sym (eqb-true (cx v n).id (cx v m).id (and_r (held (cx v n).quantity) _ t))))

  both-respected : respects_legs v (cx v i) (neg_ℤ (cx v j).limit) ≡ true → respects_legs v (cx v j) (cx v j).limit ≡ true →
      BothRespected v (cx v i).id (cx v j).id (neg_ℤ (cx v j).limit)
  both-respected p q = record {
    taking = λ n t. subst (λ (c : Complex). Respects v c (neg_ℤ (cx v j).limit)) (only i hi n t) (respects v (cx v i) (neg_ℤ (cx v j).limit) p);
    resting = λ n t.
        subst (λ (c : Complex). Respects v c (neg_ℤ (neg_ℤ (cx v j).limit))) (only j hj n t)
        (subst (λ (z : ℤ). Respects v (cx v j) z) (sym (neg_ℤ-neg_ℤ (cx v j).limit)) (respects v (cx v j) (cx v j).limit q));
  }

  tells-cross : respects_legs v (cx v i) (neg_ℤ (cx v j).limit) ≡ true → respects_legs v (cx v j) (cx v j).limit ≡ true → Tells v (cross i j k v)
  unfolding cross complex_at remove_of
  tells-cross p q =
      tells-then v _ _
      (tells-then v _ _ (tells-report _ v _
      (next-cross (cx v i).id (cx v j).id (neg_ℤ (cx v j).limit) k v (fill_complex j k (fill_complex i k v)) lessens-both) (both-respected p q))
      (tells-remove _ _))
      (tells-remove _ _)

picked-cross : (i : ℕ) (v : Venue) → Fine v → held (cx v i).quantity ≡ true → (j : ℕ) (m : Complex) → At no_complex (crosses v (cx v i)) v.complex j m → (k : ℕ) → Tells v (cross i j k v)
unfolding crosses
picked-cross i v f h j m at k =
    let z = at.is in
    let hm : held m.quantity ≡ true = search (and_l, and_r, z) depth 10 in
    let rv : reversed (cx v i) m ≡ true = search (and_l, and_r, z) depth 10 in
    let p : respects_legs v (cx v i) (neg_ℤ m.limit) ≡ true = search (and_l, and_r, z) depth 10 in
    let q : respects_legs v m m.limit ≡ true = search (and_l, and_r, z) depth 10 in
    tells-cross i j k v (good-apart f.good)
    (λ e. reversed-not (cx v i) (f.good.ranges i h).apart (subst (λ (x : Complex). reversed (cx v i) x ≡ true) (sym at.at ∙ ap (cx v) e) rv))
    h (rw at.at hm) (rw at.at p) (rw at.at q)

pub told-cross : (i : ℕ) (v : Venue) → Fine v → TellsTurn Any v (cross_turn i v)
unfolding complex_at
told-cross i v f = cross_turn-by (TellsTurn Any v) i v (λ _. tt) (λ _ _. tt) (λ h j m at. (picked-cross i v f h j m at _, tt))
