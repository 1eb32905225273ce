-- The generations of each series, and the last id that a limited sweep looked at: what the stores into them do to the venue.
use mathlib.Core.Path.{◌≡◌, refl, sym, ap, ap₂, ◌∙◌}
use mathlib.Core.Logic.{◌≢◌, ◌⊎◌, inl, inr}
use mathlib.Core.List.{List, [], ◌∷◌, ◌++◌}
use Prim.Native.Nat.{ℕ, suc, ◌+◌, ◌-◌, ◌*◌, ◌≤◌, ◌<◌}
use native.Mathlib.Omega.{arith}
use native.Mathlib.Decide.{dec_lt}
use lib.ListN.{length, get_or, set, take, drop, length-set, length-drop, get_or-append}
use lib.Seq.{ext_get_or, get_or-set_same, get_or-set_other, length-take-le}
use borrow.Rule.Slice.PartMut.{put_mid, same_len_mid}
use Rattle.std.specs.List.{CopiedTo, SameBelow, SameFrom}
use Rattle.std.proofs.lemmas.List.{get_or-take, get_or-drop, get_or-append_right as get_or_append_right}
use Rattle.rules.specs.declared.Generations.{Generations}
use Rattle.rules.specs.Words.{no_generations, with_generations, with_reached}
use Rattle.rules.specs.Generation.{generations_of, one_more, counted}
use Rattle.places.specs.Layout.{size, upto, generations_in, venue_of, SameCounts}
use Rattle.places.specs.Offsets.{show_again_at, generation_messages_at, generation_newest_at, generation_next_at, id_reached_at}
use Rattle.places.proofs.Tables.{upto-length, upto-at, upto-along, upto_from, upto-set}
use Rattle.places.proofs.Parts.{Outside, stored, count_kept, count-kept2, regulars-kept, complexes-kept, leggings-kept, series-kept, editions-kept}
use Rattle.places.proofs.Parts.{generation-kept, generations-kept, last-kept, reached-kept, venue-is}
use Rattle.places.proofs.Beside.{shows-as, levels-kept, regulars-marked, complexes-marked, legging-marked, figures-marked, right_kept}
use Rattle.places.proofs.Generations.{generations-at}

-- What a store leaves -------------------------------------------------------------------------

-- a store past all that is kept beside the venue
pub counts-after : {low high : ℕ} {a b : List ℕ} → Outside low high a b → generation_messages_at ≤ low → SameCounts a b
counts-after {a = a} {b = b} o l = record {
  regulars = count_kept o (inl (omega arith));
  complexes = count-kept2 o (inl (omega arith));
  right = right_kept a b (levels-kept o (inl (omega arith))) orders (λ m. record {
    regulars = regulars-marked o (omega arith) (inl (omega arith)) (inl (omega arith)) m.regulars;
    complexes = complexes-marked o (inr (omega arith)) (inl (omega arith)) (inl (omega arith)) m.complexes;
    legging = legging-marked o (inr (omega arith)) (inl (omega arith)) m.legging;
    figures = figures-marked o (inr (omega arith)) m.figures;
    shows = shows-as a b (o.same show_again_at (inl (omega arith))) orders m.shows;
  });
}
  where
    orders : (venue_of b).regular ≡ (venue_of a).regular
    orders = regulars-kept o (omega arith) (inl (omega arith)) (inl (omega arith))

pub generations-set : {s : ℕ} {a b : List ℕ} → Outside (20 * s + generation_messages_at) (20 * s + generation_next_at) a b → s < 8 →
    venue_of b ≡ with_generations (venue_of a) (set (venue_of a).generations s (generations_in b s))
unfolding with_generations
generations-set {s = s} {a = a} {b = b} o h =
    venue-is (venue_of b) (with_generations (venue_of a) (set (venue_of a).generations s (generations_in b s)))
    (regulars-kept o (omega arith) (inl (omega arith)) (inl (omega arith)))
    (complexes-kept o (inr (omega arith)) (inl (omega arith)))
    (leggings-kept o (inr (omega arith)))
    (series-kept o (inr (omega arith)))
    (editions-kept o (inr (omega arith)))
    part
    (last-kept o (inl (omega arith)))
    (reached-kept o (inr (omega arith)))
  where
    near : (j : ℕ) → j ≢ s → (20 * j + generation_next_at ≤ 20 * s + generation_messages_at) ⊎ (20 * s + generation_next_at ≤ 20 * j + generation_messages_at)
    near j n = elim (dec_lt j s) [ yes q ↦ inl (omega arith) | no q ↦ inr (omega arith) ]

    part : (venue_of b).generations ≡ set (venue_of a).generations s (generations_in b s)
    part = unfold venue_of in (upto-set (generations_in a) (generations_in b) no_generations s 8 h (λ j q n. generation-kept o j (near j n)))

pub put-reached : (a : List ℕ) (id : ℕ) → length a ≡ size → (venue_of (set a id_reached_at id) ≡ with_reached (venue_of a) id) × SameCounts a (set a id_reached_at id)
unfolding with_reached
put-reached a id n = (
  venue-is (venue_of (set a id_reached_at id)) (with_reached (venue_of a) id)
      (regulars-kept o (omega arith) (inl (omega arith)) (inl (omega arith)))
      (complexes-kept o (inr (omega arith)) (inl (omega arith)))
      (leggings-kept o (inr (omega arith)))
      (series-kept o (inr (omega arith)))
      (editions-kept o (inr (omega arith)))
      (generations-kept o (inr (omega arith)))
      (last-kept o (inl (omega arith)))
      (unfold venue_of in get_or-set_same a id_reached_at id 0 (omega arith)),
  counts-after o (omega arith),
)
  where
    o : Outside id_reached_at 1393 a (set a id_reached_at id)
    o = stored a id_reached_at id

-- Numbers in turn -----------------------------------------------------------------------------

-- the numbers from one place to below another are f's, and nothing else changed
pub record Written (f : ℕ → ℕ) (first next : ℕ) (a b : List ℕ) : Type 0 where
  pub long : length b ≡ size
  pub here : (k : ℕ) → first ≤ k → k < next → get_or b k 0 ≡ f k
  pub rest : (k : ℕ) → (k < first) ⊎ (next ≤ k) → get_or b k 0 ≡ get_or a k 0

written-outside : (f : ℕ → ℕ) (s : ℕ) (a b : List ℕ) → Written f (20 * s + generation_messages_at) (20 * s + generation_next_at) a b → Outside
    (20 * s + generation_messages_at) (20 * s + generation_next_at) a b
written-outside f s a b m = record { same = m.rest }

-- a series' generations so written
written-set : (f : ℕ → ℕ) (s : ℕ) (a b : List ℕ) (l : List ℕ) → s < 8 → Written f (20 * s + generation_messages_at) (20 * s + generation_next_at) a b → upto f (20 * s + generation_messages_at) 20 ≡ l →
    (venue_of b ≡ with_generations (venue_of a) (set (venue_of a).generations s (record { messages = l }))) × SameCounts a b
unfolding generations_in
written-set f s a b l h m e = (
  generations-set (written-outside f s a b m) h ∙ ap (λ (g : Generations). with_generations (venue_of a) (set (venue_of a).generations s g)) part,
  counts-after (written-outside f s a b m) (omega arith),
)
  where
    part : generations_in b s ≡ record { messages = l }
    part = rw (
      upto-along (λ k. get_or b k 0) f (20 * s + generation_messages_at) (20 * s + generation_messages_at) 20
          (λ x w. m.here (20 * s + generation_messages_at + x) (omega arith) (omega arith)),
      e,
    ) refl

-- those of a list
abbrev pub list_from : (first : ℕ) → List ℕ → ℕ → ℕ
list_from first l k = get_or l (k - first) 0

-- twenty numbers copied over those of a part, of k of them
part-written : (first next k : ℕ) (a l : List ℕ) → length a ≡ size → k ≡ 20 → length l ≡ 20 → next ≡ first + 20 → next ≤ size → Written (list_from first l) first next a (put_mid first k a l)
part-written first next k a l n e w z h = record {
  long = same_len_mid first k a l (omega (arith, n, w, length-take-le k (drop first a) (omega (arith, n, length-drop first a)))) ∙ n;
  here = λ j p q. get_or_append_right (take first a) (l ++ drop k (drop first a)) first j 0 front p ∙ get_or-append l (drop k (drop first a)) 0 (j - first) (omega (arith, w));
  rest = others;
}
  where
    front : length (take first a) ≡ first
    front = length-take-le first a (omega (arith, n))

    others : (j : ℕ) → (j < first) ⊎ (next ≤ j) → get_or (put_mid first k a l) j 0 ≡ get_or a j 0
    others j (inl q) = get_or-append (take first a) (l ++ drop k (drop first a)) 0 j (omega (arith, front)) ∙ get_or-take first a j 0 q
    others j (inr q) =
        let there : first + (k + (j - first - 20)) ≡ j = omega arith in
        get_or_append_right (take first a) (l ++ drop k (drop first a)) first j 0 front (omega arith)
        ∙ get_or_append_right l (drop k (drop first a)) 20 (j - first) 0 w (omega arith)
        ∙ get_or-drop k (drop first a) (j - first - 20) 0
        ∙ get_or-drop first a (k + (j - first - 20)) 0
        ∙ ap (λ (x : ℕ). get_or a x 0) there

pub put-generations : (s k : ℕ) (a l : List ℕ) (g : Generations) → length a ≡ size → s < 8 → length g.messages ≡ 20 → k ≡ 20 → l ≡ g.messages →
    (venue_of (put_mid (20 * s + generation_messages_at) k a l) ≡ with_generations (venue_of a) (set (venue_of a).generations s g))
    × SameCounts a (put_mid (20 * s + generation_messages_at) k a l)
put-generations s k a l g long h n e p =
    rw p (written-set f s a _ g.messages h (part-written (20 * s + generation_messages_at) (20 * s + generation_next_at) k a g.messages long e n (omega arith) (omega arith)) whole-list)
  where
    f : ℕ → ℕ
    f = list_from (20 * s + generation_messages_at) g.messages

    whole-list : upto f (20 * s + generation_messages_at) 20 ≡ g.messages
    whole-list = ext_get_or 0 (upto f (20 * s + generation_messages_at) 20) g.messages (upto-length f (20 * s + generation_messages_at) 20 ∙ sym n)
        (λ j w. upto-at f 0 (20 * s + generation_messages_at) 20 j (omega (arith, upto-length f (20 * s + generation_messages_at) 20)) ∙ ap (λ (x : ℕ). get_or g.messages x 0) (omega arith))

-- One generation more -------------------------------------------------------------------------

-- each number is the one after it, and the last is the message's
abbrev pub after : List ℕ → ℕ → ℕ
after a k = get_or a (k + 1) 0

count-here : (s number k : ℕ) (a b : List ℕ) → s < 8 → k ≡ 20 * s + generation_newest_at → Written (after a) (20 * s + generation_messages_at) k a b →
    (venue_of (set b (20 * s + generation_newest_at) number) ≡ counted number s (venue_of a)) × SameCounts a (set b (20 * s + generation_newest_at) number)
unfolding counted one_more generations_of generations_in upto
count-here s number k a b h e m = written-set (λ j. get_or c j 0) s a c _ h all-written messages
  where
    c : List ℕ
    c = set b (20 * s + generation_newest_at) number

    apart : (j : ℕ) → (j < 20 * s + generation_messages_at) ⊎ (20 * s + generation_next_at ≤ j) → j ≢ 20 * s + generation_newest_at
    apart j (inl w) q = omega arith
    apart j (inr w) q = omega arith

    fewer : (j : ℕ) → (j < 20 * s + generation_messages_at) ⊎ (20 * s + generation_next_at ≤ j) → (j < 20 * s + generation_messages_at) ⊎ (k ≤ j)
    fewer j (inl w) = inl w
    fewer j (inr w) = inr (omega arith)

    all-written : Written (λ j. get_or c j 0) (20 * s + generation_messages_at) (20 * s + generation_next_at) a c
    all-written = record {
      long = length-set b (20 * s + generation_newest_at) number ∙ m.long;
      here = λ j p q. refl;
      rest = λ j w. get_or-set_other b (20 * s + generation_newest_at) j number 0 (apart j w) ∙ m.rest j (fewer j w);
    }

    last : get_or c (20 * s + generation_messages_at + 19) 0 ≡ number
    last = let q : 20 * s + generation_messages_at + 19 ≡ 20 * s + generation_newest_at = omega arith in ap (λ (j : ℕ). get_or c j 0) q ∙ get_or-set_same b
        (20 * s + generation_newest_at) number 0 (omega (arith, m.long))

    moved : (x : ℕ) → x < 19 → get_or c (20 * s + generation_messages_at + x) 0 ≡ get_or a (suc (20 * s + generation_messages_at) + x) 0
    moved x w = get_or-set_other b (20 * s + generation_newest_at) (20 * s + generation_messages_at + x) number 0 (λ q. omega arith) ∙ m.here (20 * s + generation_messages_at + x) (omega arith) (omega arith)
        ∙ ap (λ (j : ℕ). get_or a j 0) (omega arith)

    messages : upto (λ j. get_or c j 0) (20 * s + generation_messages_at) 20 ≡ one_more number (generations_of (venue_of a) s)
    messages =
        upto_from (λ j. get_or c j 0) (20 * s + generation_messages_at) 19
        ∙ ap₂ (λ (l : List ℕ) (x : ℕ). l ++ (x ∷ [])) (upto-along (λ j. get_or c j 0) (λ j. get_or a j 0) (20 * s + generation_messages_at) (suc (20 * s + generation_messages_at)) 19 moved) last
        ∙ sym (ap (λ (g : Generations). one_more number g.messages) (generations-at a s h))

pub count-generation : (s number first last i k : ℕ) (a b : List ℕ) → length b ≡ size → s < 8 → first ≡ 20 * s + generation_messages_at →
    last ≡ 20 * s + generation_newest_at → i ≡ first + 1 → first + k ≡ last →
    CopiedTo a b i first k × SameBelow a b first × SameFrom a b (first + k) →
    (venue_of (set b last number) ≡ counted number s (venue_of a)) × SameCounts a (set b last number)
count-generation s number first last i k a b n h p q e z m = rw q (count-here s number last a b h q (rw p at moved))
  where
    others : (j : ℕ) → (j < first) ⊎ (last ≤ j) → get_or b j 0 ≡ get_or a j 0
    others j (inl w) = m.1 j 0 w
    others j (inr w) = m.2 j 0 (omega arith)

    moved : Written (after a) first last a b
    moved = record {
      long = n;
      here = λ j v w. let t : i + (j - first) ≡ j + 1 = omega arith in m.0 j 0 v (omega arith) ∙ ap (λ (x : ℕ). get_or a x 0) t;
      rest = others;
    }
