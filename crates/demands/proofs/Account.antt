-- The account of what callers have seen: the one invariant of the induction over calls, and how one message takes it on.
use mathlib.Core.Path.{◌∙◌, ◌≡◌, ap, subst, sym}
use mathlib.Core.Bool.{true}
use mathlib.Core.Logic.{◌⊎◌, inl, inr, ⊎_elim}
use mathlib.Core.List.Memᴰ
use mathlib.Core.List.{List, Memᴰ, [], ◌++◌, ◌∷◌}
use Prim.Native.Nat.{◌*◌, ◌+◌, ◌<◌, ◌≤◌, suc, ℕ}
use native.Mathlib.Omega.{arith}
use lib.IntN.{pos}
use lib.ListN.{get_or-append, length, length-append}
use lib.Seq.{get_or_at}
use Rattle.rules.specs.declared.Complex.{Complex}
use Rattle.rules.specs.declared.Message.{Message}
use Rattle.rules.specs.declared.Message.TheVariants.{Order, TwoLeg}
use Rattle.rules.specs.declared.Regular.{Regular}
use Rattle.rules.specs.declared.Venue.{Venue}
use Rattle.rules.specs.Base.{held}
use Rattle.rules.specs.Words.{no_complex, no_regular}
use Rattle.rules.specs.Messages.{message_of}
use Rattle.rules.specs.Records.{ForAll, Report, FourBytes, answer}
use Rattle.rules.specs.Effects.{Effect}
use Rattle.rules.specs.Sound.{follows}
use Rattle.rules.specs.Sums.{cancelled_of, contracts, crossed_for, open_complex, open_regular, paired, total}
use Rattle.demands.specs.Demand.{Accepted, Seen, start}
use Rattle.rules.proofs.Adding.{open_none, total-append}
use Rattle.rules.proofs.Filling.{cx, reg}
use Rattle.rules.proofs.Generating.{AllStand}
use Rattle.rules.proofs.Ledger.{ComplexId, Moved, RegularId, cx-kept, ratio-none, ratio-then, reg-kept}
use Rattle.rules.proofs.Quiet.{NoAnswer}
use Rattle.demands.proofs.Admitting.{Admitted, NewComplex, NewOrder}
use Rattle.demands.proofs.Closed.{Ends}
use Rattle.demands.proofs.Homes.{Fine, Good, Invariant}

-- Accounts ------------------------------------------------------------------------------------

-- of an accepted regular order
pub record OrderAccount (s : Seen) (o : Regular) : Type 0 where
  pub known : o.id ≤ s.venue.last
  pub own : RegularId o.id o.series s.venue
  pub adds : o.quantity ≡ total (contracts o.id o.series) s.reports + total (cancelled_of o.id) s.reports + open_regular o.id s.venue.regular

-- of an accepted complex order: its contracts in each series are its pairs by the leg's ratio
pub record ComplexAccount (s : Seen) (c : Complex) : Type 0 where
  pub known : c.id ≤ s.venue.last
  pub own : ComplexId c s.venue
  pub first : total (contracts c.id c.series1) s.reports ≡ c.ratio1 * total (paired c.id) s.reports
  pub second : total (contracts c.id c.series2) s.reports ≡ c.ratio2 * total (paired c.id) s.reports
  pub adds : c.quantity ≡ total (paired c.id) s.reports + total (crossed_for c.id) s.reports + total (cancelled_of c.id) s.reports + open_complex c.id s.venue.complex

-- records name no id y
pub record Unnamed (y : ℕ) (rs : List Report) : Type 0 where
  pub contracts0 : (s : ℕ) → total (contracts y s) rs ≡ 0
  pub paired0 : total (paired y) rs ≡ 0
  pub crossed0 : total (crossed_for y) rs ≡ 0
  pub cancelled0 : total (cancelled_of y) rs ≡ 0

pub record Account (s : Seen) : Type 0 where
  pub invariant : Invariant s.venue
  pub few : FourBytes s.done
  pub dated : follows (suc s.done) s.venue ≡ true
  pub count : length s.messages ≡ s.done
  pub numbers : (j x m c : ℕ) → Memᴰ (answer j x m c) s.reports → j ≤ s.done
  pub orders : (o : Regular) → Accepted s (Order o) → OrderAccount s o
  pub complexes : (c : Complex) → Accepted s (TwoLeg c) → ComplexAccount s c
  pub above : (y : ℕ) → s.venue.last < y → Unnamed y s.reports

-- above the last id, a move's records name nothing
moved-above : {v w : Venue} {qs : List Report} → Good v → Moved v qs w → (y : ℕ) → v.last < y → Unnamed y qs
moved-above {v} {w} {qs} g m y lt =
    let nr : (i : ℕ) → held (reg v i).quantity ≡ true → (reg v i).id ≡ y → ⊥ = λ i h e. (let z = g.rlast i h in omega arith) in
    let nx : (i : ℕ) → held (cx v i).quantity ≡ true → (cx v i).id ≡ y → ⊥ = λ i h e. (let z = g.xlast i h in omega arith) in
    let r : (s : ℕ) → RegularId y s v = λ s. record { home = λ i h e. absurd (nr i h e); alone = λ i j h k e q. absurd (nr i h e); none = nx } in
    let x : ComplexId (named y) v = record { home = λ i h e. absurd (nx i h e); alone = λ i j h k e q. absurd (nx i h e); none = nr } in
    let a = open_none no_regular (λ o. o.id) (λ o. o.quantity) y v.regular nr in
    let b = open_none no_complex (λ c. c.id) (λ c. c.quantity) y v.complex nx in
    let p = (m.complexes (named y) x).falls in
    record {
      contracts0 = λ s. (let q = m.orders y s (r s) in omega arith);
      paired0 = omega arith;
      crossed0 = omega arith;
      cancelled0 = omega arith;
    }
  where
    -- some order of that id
    named : ℕ → Complex
    named y = record { id = y; series1 = 0; side1 = 0; series2 = 0; side2 = 0; class = 0; limit = pos 0; quantity = 0; ratio1 = 0; ratio2 = 0 }

-- One message more ----------------------------------------------------------------------------

-- the message at the front of bs has been done, with this effect
unfoldable pub onto : Seen → List ℕ → Effect → Seen
onto s bs e = record {
  venue = e.venue;
  done = suc s.done;
  messages = s.messages ++ (bs ∷ []);
  reports = s.reports ++ e.reports;
}

-- an answer is not among a message's effects
no_answer : (j x m c : ℕ) (qs : List Report) → ForAll NoAnswer qs → Memᴰ (answer j x m c) qs → ⊥
no_answer j x m c [] h k = Memᴰ.not-nil k
no_answer j x m c (q ∷ qs) h k = elim (Memᴰ.cases_cons k) [
  | inl e ↦ subst NoAnswer (sym e) h.0
  | inr t ↦ no_answer j x m c qs h.1 t
]

same_number : {j x m c n y k l : ℕ} → answer j x m c ≡ answer n y k l → (j ≡ n) × (x ≡ y)
same_number e = (cc, cc)

-- a message upon v brings in the orders of ms, which gives `start`, and its records qs lead from there to w, whose gaps are not yet closed
pub record Takes (v : Venue) (qs : List Report) (w : Venue) (ms : List Message) : Type 0 where
  pub start : Venue
  pub admitted : Admitted v start
  pub moved : Moved start qs w
  pub fine : Fine w
  pub stand : AllStand w
  pub orders : (o : Regular) → Memᴰ (Order o) ms → NewOrder v start o
  pub complexes : (c : Complex) → Memᴰ (TwoLeg c) ms → NewComplex v start c

-- the message bs, and its effect e: what it brings in, its records with its 64 first, and the venue that is returned
module _ {s : Seen} {u : Venue} {ns : List Message} (bs : List ℕ) {e : Effect} (a : Account s) (t : Takes s.venue e.reports u ns) (z : Ends u e.venue)
    (x k l : ℕ) (es : List Report) (is : e.reports ≡ answer (suc s.done) x k l ∷ es) (quiet : ForAll NoAnswer es)
    (brings : x ≡ 0 → ns ≡ message_of bs ∷ []) (invariant : Invariant e.venue) (few : FourBytes (suc s.done))
    (next : follows (suc (suc s.done)) e.venue ≡ true) where
  abbrev qs : List Report
  qs = e.reports

  last-is : e.venue.last ≡ t.start.last
  last-is = z.last ∙ t.moved.last

  old-order : (o : Regular) → OrderAccount s o → OrderAccount (onto s bs e) o
  unfolding onto
  old-order o x =
      let r = t.admitted.regs _ _ x.known x.own in
      let p = t.moved.orders _ _ r in
      let q = t.admitted.open_r _ x.known in
      record {
        known = let l = t.admitted.later in let e = last-is in let k = x.known in omega arith;
        own = z.regs _ _ (reg-kept t.moved.regular t.moved.complex r);
        adds = rw (total-append (contracts o.id o.series) s.reports qs, total-append (cancelled_of o.id) s.reports qs)
            (let y = x.adds in let g = z.open_r o.id in omega arith);
      }

  new-order : (o : Regular) → NewOrder s.venue t.start o → OrderAccount (onto s bs e) o
  unfolding onto
  new-order o x =
      let p = t.moved.orders _ _ x.own in
      let f = a.above o.id x.new in
      record {
        known = let e = last-is in let k = x.known in omega arith;
        own = z.regs _ _ (reg-kept t.moved.regular t.moved.complex x.own);
        adds = rw (total-append (contracts o.id o.series) s.reports qs, total-append (cancelled_of o.id) s.reports qs)
            (let y = x.whole in let c = f.contracts0 o.series in let g = z.open_r o.id in omega arith);
      }

  old-complex : (c : Complex) → ComplexAccount s c → ComplexAccount (onto s bs e) c
  unfolding onto
  old-complex c x =
      let r = t.admitted.cxs _ x.known x.own in
      let p = t.moved.complexes _ r in
      let q = t.admitted.open_c _ x.known in
      record {
        known = let l = t.admitted.later in let e = last-is in let k = x.known in omega arith;
        own = z.cxs _ (cx-kept t.moved.regular t.moved.complex r);
        first = rw (total-append (contracts c.id c.series1) s.reports qs, total-append (paired c.id) s.reports qs) (ratio-then c.ratio1 _ _ _ _ x.first p.first);
        second = rw (total-append (contracts c.id c.series2) s.reports qs, total-append (paired c.id) s.reports qs) (ratio-then c.ratio2 _ _ _ _ x.second p.second);
        adds = rw (total-append (paired c.id) s.reports qs, total-append (crossed_for c.id) s.reports qs, total-append (cancelled_of c.id) s.reports qs)
            (let y = x.adds in let f = p.falls in let g = z.open_c c.id in omega arith);
      }

  new-complex : (c : Complex) → NewComplex s.venue t.start c → ComplexAccount (onto s bs e) c
  unfolding onto
  new-complex c x =
      let p = t.moved.complexes _ x.own in
      let f = a.above c.id x.new in
      record {
        known = let e = last-is in let k = x.known in omega arith;
        own = z.cxs _ (cx-kept t.moved.regular t.moved.complex x.own);
        first = rw (total-append (contracts c.id c.series1) s.reports qs, total-append (paired c.id) s.reports qs)
            (ratio-then c.ratio1 _ _ _ _ (ratio-none c.ratio1 _ _ (f.contracts0 c.series1) f.paired0) p.first);
        second = rw (total-append (contracts c.id c.series2) s.reports qs, total-append (paired c.id) s.reports qs)
            (ratio-then c.ratio2 _ _ _ _ (ratio-none c.ratio2 _ _ (f.contracts0 c.series2) f.paired0) p.second);
        adds = rw (total-append (paired c.id) s.reports qs, total-append (crossed_for c.id) s.reports qs, total-append (cancelled_of c.id) s.reports qs)
            (let y = x.whole in let h = p.falls in let g = z.open_c c.id in omega arith);
      }

  -- accepted before, or by this message
  cases : (m : Message) → Accepted (onto s bs e) m → Accepted s m ⊎ Memᴰ m ns
  unfolding onto
  cases m y = go (Memᴰ.append_cases s.reports y.told)
    where
      go : Memᴰ (answer (suc y.before) 0 y.mask y.count) s.reports ⊎ Memᴰ (answer (suc y.before) 0 y.mask y.count) qs → Accepted s m ⊎ Memᴰ m ns
      go (inl h) =
          let n = a.numbers _ _ _ _ h in
          let c = a.count in
          inl (record {
            before = y.before;
            is = ap message_of (sym (get_or-append s.messages (bs ∷ []) [] y.before (omega arith))) ∙ y.is;
            mask = y.mask;
            count = y.count;
            told = h;
          })
      go (inr h) = elim (Memᴰ.cases_cons (subst (λ (q : List Report). Memᴰ (answer (suc y.before) 0 y.mask y.count) q) is h)) [
        | inl q ↦
            let n = same_number q in
            let b : length s.messages ≡ y.before = (let i = n.0 in let c = a.count in omega arith) in
            let m=bs = ap message_of (sym (get_or_at s.messages bs [] [] y.before b)) ∙ y.is in
            inr (subst (λ (q : List Message). Memᴰ m q) (sym (brings (sym n.1))) (Memᴰ.head (sym m=bs)))
        | inr q ↦ absurd (no_answer _ _ _ _ es quiet q)
      ]

  told-by : (j y m c : ℕ) → Memᴰ (answer j y m c) (s.reports ++ qs) → j ≤ suc s.done
  told-by j y m c h = elim (Memᴰ.append_cases s.reports h) [
    | inl o ↦ let b = a.numbers j y m c o in omega arith
    | inr p ↦ elim (Memᴰ.cases_cons (subst (λ (q : List Report). Memᴰ (answer j y m c) q) is p)) [
      | inl q ↦ let b = (same_number q).0 in omega arith
      | inr q ↦ absurd (no_answer j y m c es quiet q)
    ]
  ]

  unnamed : (y : ℕ) → e.venue.last < y → Unnamed y (s.reports ++ qs)
  unnamed y lt =
      let l = t.admitted.later in
      let i = last-is in
      let b = a.above y (omega arith) in
      let n = moved-above t.admitted.fine.good t.moved y (omega arith) in
      record {
        contracts0 = λ r. rw (total-append (contracts y r) s.reports qs, b.contracts0 r, n.contracts0 r);
        paired0 = rw (total-append (paired y) s.reports qs, b.paired0, n.paired0);
        crossed0 = rw (total-append (crossed_for y) s.reports qs, b.crossed0, n.crossed0);
        cancelled0 = rw (total-append (cancelled_of y) s.reports qs, b.cancelled0, n.cancelled0);
      }

  pub advance : Account (onto s bs e)
  advance = record {
    invariant = unfold onto in invariant;
    few = unfold onto in few;
    dated = unfold onto in next;
    count = unfold onto in (simp length-append (let c = a.count in omega arith));
    numbers = unfold onto in told-by;
    orders = λ o m. ⊎_elim (λ x. old-order o (a.orders o x)) (λ x. new-order o (t.orders o x)) (cases (Order o) m);
    complexes = λ c m. ⊎_elim (λ x. old-complex c (a.complexes c x)) (λ x. new-complex c (t.complexes c x)) (cases (TwoLeg c) m);
    above = unfold onto in unnamed;
  }
