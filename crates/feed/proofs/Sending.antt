-- Lines of one list: each is read back, and the list is handed out.
use Rattle.std.specs.Prelude.{if◌then◌else◌}
use mathlib.Core.Path.{◌≡◌, refl, sym, ap, ap₂, ◌∙◌}
use mathlib.Core.Bool.{Bool, true, false, true≢false, ◌||◌}
use mathlib.Core.List.{List, [], ◌∷◌, ◌++◌}
use Prim.Native.Nat.{ℕ, zero, suc, ◌+◌, ◌<◌, ◌≤◌}
use native.Mathlib.Omega.{arith}
use lib.Dec.{eqb}
use lib.ListN.{length, take, drop, length-append}
use lib.Seq.{take-append_seam, drop-append_seam, drop-drop}
use borrow.Author.Tests.{le-ltb, lt-leb, ne_eqb, eq-eqb, eqb-true}
use Rattle.rules.specs.Bytes.{u8_at, u16_at, u32_at, length_field, bytes, u32}
use Rattle.rules.specs.Calls.{Call, run}
use Rattle.rules.proofs.Front.{length-same}
use Rattle.rules.proofs.Reading.{word}
use Rattle.rules.proofs.RefusalsLaws.{whole_in}
use Rattle.feed.specs.Feed.{number_of, message_in, behind, faulty, faultless, faultless_from, Part, parts_of, parts_from, under, later, absent}
use Rattle.feed.specs.Feed.{stands, next, next_by, message, handed_from, stopped, first, handed, joined, numbered, feed}
use Rattle.feed.specs.Sent.{Sent, AllWhole, NoneLost, line_from, main_line, spare_line, messages, ListHanded, ListRun}
use Rattle.feed.proofs.Handing.{same_self, next-as, under-past, later-past, handed-on, handed-as}

-- A number and a whole message in front of a line ---------------------------------------------

module _ (n : ℕ) (m rest : List ℕ) (few : n < 4294967295) (four : 4 ≤ length m) (whole : length_field m ≡ length m) where
  abbrev block : List ℕ
  block = (u32 (suc n) ++ m) ++ rest

  number_is : number_of block ≡ suc n
  unfolding number_of u32_at u16_at u8_at bytes
  number_is = rw (le-ltb (length block) 4 (omega arith)) (word (suc n) (omega arith))

  drop-is : drop 4 block ≡ m ++ rest
  unfolding bytes
  drop-is = refl

  field_is : length_field (drop 4 block) ≡ length m
  field_is = ap length_field drop-is ∙ length-same m rest (omega arith) ∙ whole

  message-is : message_in block ≡ m
  unfolding message_in
  message-is = ap₂ take field_is drop-is ∙ take-append_seam m rest

  behind-is : behind block ≡ rest
  unfolding behind
  behind-is = rw field_is (sym (drop-drop (length m) 4 block) ∙ ap (drop (length m)) drop-is ∙ drop-append_seam m rest)

  fine : (last : ℕ) → last ≤ n → faulty last block ≡ false
  unfolding faulty
  fine last h =
      let l = length-append m rest in
      let f = length-same m rest (omega arith) in
      rw (number_is, lt-leb (suc n) last (omega arith), drop-is) (whole_in (m ++ rest) (omega arith, omega arith))

  some : eqb (length block) 0 ≡ false
  unfolding bytes
  some = ne_eqb (length block) 0 (λ e. omega arith)

  faultless-block : (fuel last : ℕ) → last ≤ n → faultless_from (suc fuel) last block ≡ faultless_from fuel (suc n) rest
  unfolding faultless_from
  faultless-block fuel last h = rw (some, fine last h, number_is, behind-is, faultless_from)

  parts-block : (fuel : ℕ) → parts_from (suc fuel) block ≡ record { number = suc n; message = m } ∷ parts_from fuel rest
  unfolding parts_from
  parts-block fuel = rw (some, number_is, message-is, behind-is, parts_from)

  block-length : length block ≡ 4 + length m + length rest
  unfolding bytes
  block-length = simp length-append (omega arith)

-- A line is read back -------------------------------------------------------------------------

abbrev sent_parts : (on : Sent → Bool) → (n : ℕ) → List Sent → List Part
sent_parts on n [] = []
sent_parts on n (x ∷ xs) = (if on x then record { number = suc n; message = x.message } ∷ [] else []) ++ sent_parts on (suc n) xs

-- both readings of a line, at once
abbrev Reads : (fuel last : ℕ) (bs : List ℕ) (ps : List Part) → Type 0
Reads fuel last bs ps = (faultless_from fuel last bs ≡ true) × (parts_from fuel bs ≡ ps)

reads_none : (fuel last : ℕ) → Reads fuel last [] []
unfolding faultless_from parts_from
reads_none zero last = (refl, refl)
reads_none (suc fuel) last = (refl, refl)

reads-block : (fuel last n : ℕ) (m rest : List ℕ) (ps : List Part) → n < 4294967295 → 4 ≤ length m → length_field m ≡ length m → last ≤ n →
    Reads fuel (suc n) rest ps → Reads (suc fuel) last ((u32 (suc n) ++ m) ++ rest) (record { number = suc n; message = m } ∷ ps)
reads-block fuel last n m rest ps few four whole h r =
    (faultless-block n m rest few four whole fuel last h ∙ r.0, parts-block n m rest few four whole fuel ∙ ap (λ (q : List Part). record { number = suc n; message = m } ∷ q) r.1)

-- one message more, which came over the line or did not
reads_more : (t : Bool) (fuel last n : ℕ) (m rest : List ℕ) (ps : List Part) → n < 4294967295 → 4 ≤ length m → length_field m ≡ length m → last ≤ n →
    length ((if t then u32 (suc n) ++ m else []) ++ rest) ≤ fuel → ((f l : ℕ) → length rest ≤ f → l ≤ suc n → Reads f l rest ps) →
    Reads fuel last ((if t then u32 (suc n) ++ m else []) ++ rest) ((if t then record { number = suc n; message = m } ∷ [] else []) ++ ps)
reads_more false fuel last n m rest ps few four whole h le r = r fuel last le (omega arith)
reads_more true zero last n m rest ps few four whole h le r = let z = block-length n m rest few four whole in absurd (omega arith)
reads_more true (suc fuel) last n m rest ps few four whole h le r =
    let z = block-length n m rest few four whole in
    reads-block fuel last n m rest ps few four whole h (r fuel (suc n) (omega arith) (omega arith))

reads-line : (on : Sent → Bool) (fuel last n : ℕ) (xs : List Sent) → length (line_from on n xs) ≤ fuel → last ≤ n → n + length xs ≤ 4294967295 → AllWhole xs →
    Reads fuel last (line_from on n xs) (sent_parts on n xs)
unfolding line_from
reads-line on fuel last n [] le h few w = reads_none fuel last
reads-line on fuel last n (x ∷ xs) le h few w =
    reads_more (on x) fuel last n x.message (line_from on (suc n) xs) (sent_parts on (suc n) xs) (omega arith) w.0.0 w.0.1 h le
    (λ f l k j. reads-line on f l (suc n) xs k j (omega arith) w.1)

-- The list is handed out ----------------------------------------------------------------------

-- none of the numbers sent before
none-under : (on : Sent → Bool) (n k : ℕ) (xs : List Sent) → k ≤ n → under k (sent_parts on n xs) ≡ absent
none-under on n k [] h = unfold under in refl
none-under on n k (x ∷ xs) h = go (on x) (none-under on (suc n) k xs (omega arith))
  where
    go : (t : Bool) → under k (sent_parts on (suc n) xs) ≡ absent →
        under k ((if t then record { number = suc n; message = x.message } ∷ [] else []) ++ sent_parts on (suc n) xs) ≡ absent
    go false e = e
    go true e = unfold under in (rw (ne_eqb (suc n) k (λ z. omega arith)) e)

-- the message with the next number
under_one : (t : Bool) (n : ℕ) (m : List ℕ) (ps : List Part) → under (suc n) ps ≡ absent →
    under (suc n) ((if t then record { number = suc n; message = m } ∷ [] else []) ++ ps) ≡ (if t then stands m else absent)
unfolding under
under_one true n m ps e = rw (eq-eqb (suc n) (suc n) refl)
under_one false n m ps e = e

by-either : (a b : Bool) (m : List ℕ) (t : Bool) → (a || b) ≡ true → next_by (if a then stands m else absent) (if b then stands m else absent) t ≡ message m
unfolding next_by
by-either true true m t e = rw (same_self m)
by-either true false m t e = refl
by-either false true m t e = refl
by-either false false m t e = absurd (true≢false (sym e))

next-sent : (n : ℕ) (x : Sent) (xs : List Sent) → (x.on_main || x.on_spare) ≡ true →
    next (suc n) (sent_parts (λ y. y.on_main) n (x ∷ xs)) (sent_parts (λ y. y.on_spare) n (x ∷ xs)) ≡ message x.message
unfolding next
next-sent n x xs e =
    rw (
      under_one x.on_main n x.message (sent_parts (λ y. y.on_main) (suc n) xs) (none-under (λ y. y.on_main) (suc n) (suc n) xs (omega arith)),
      under_one x.on_spare n x.message (sent_parts (λ y. y.on_spare) (suc n) xs) (none-under (λ y. y.on_spare) (suc n) (suc n) xs (omega arith)),
    )
    (by-either x.on_main x.on_spare x.message _ e)

-- once it is handed out nothing comes of it any more
under-gone : (t : Bool) (n k : ℕ) (m : List ℕ) (ps : List Part) → suc n < k →
    (under k ((if t then record { number = suc n; message = m } ∷ [] else []) ++ ps) ≡ under k ps) × (later k ((if t then record { number = suc n; message = m } ∷ [] else []) ++ ps) ≡ later k ps)
under-gone true n k m ps h = (under-past _ ps k h, later-past _ ps k h)
under-gone false n k m ps h = (refl, refl)

gone : (n k : ℕ) (x : Sent) (xs : List Sent) → suc n < k →
    next k (sent_parts (λ y. y.on_main) n (x ∷ xs)) (sent_parts (λ y. y.on_spare) n (x ∷ xs)) ≡ next k (sent_parts (λ y. y.on_main) (suc n) xs) (sent_parts (λ y. y.on_spare) (suc n) xs)
gone n k x xs h =
    let a = under-gone x.on_main n k x.message (sent_parts (λ y. y.on_main) (suc n) xs) h in
    let b = under-gone x.on_spare n k x.message (sent_parts (λ y. y.on_spare) (suc n) xs) h in
    next-as k _ _ _ _ a.0 b.0 a.1 b.1

sent-handed : (fuel n : ℕ) (xs : List Sent) → length xs ≤ fuel → NoneLost xs →
    handed_from fuel n (sent_parts (λ y. y.on_main) n xs) (sent_parts (λ y. y.on_spare) n xs) ≡ record { messages = messages xs; number = 0 }
sent-handed zero n [] le c = unfold handed_from stopped in refl
sent-handed (suc fuel) n [] le c = unfold handed_from stopped next next_by under later in refl
sent-handed zero n (x ∷ xs) le c = absurd (omega arith)
sent-handed (suc fuel) n (x ∷ xs) le c =
    handed-on fuel n _ _ x.message (next-sent n x xs c.0)
    ∙ ap (first x.message) (handed-as fuel (suc n) _ _ _ _ (λ k h. gone n k x xs h) ∙ sent-handed fuel (suc n) xs (omega arith) c.1)
    ∙ (unfold first in refl)

-- each came over a line, so there are no more than bytes on both
enough-one : (a b : Bool) (n : ℕ) (m r q : List ℕ) (k : ℕ) → (a || b) ≡ true → k ≤ length r + length q →
    suc k ≤ length ((if a then u32 (suc n) ++ m else []) ++ r) + length ((if b then u32 (suc n) ++ m else []) ++ q)
unfolding bytes
enough-one true b n m r q k e h = go b
  where
    go : (t : Bool) → suc k ≤ length ((u32 (suc n) ++ m) ++ r) + length ((if t then u32 (suc n) ++ m else []) ++ q)
    go true = simp length-append (omega arith)
    go false = simp length-append (omega arith)
enough-one false true n m r q k e h = simp length-append (omega arith)
enough-one false false n m r q k e h = absurd (true≢false (sym e))

enough : (n : ℕ) (xs : List Sent) → NoneLost xs → length xs ≤ length (line_from (λ y. y.on_main) n xs) + length (line_from (λ y. y.on_spare) n xs)
unfolding line_from
enough n [] c = omega arith
enough n (x ∷ xs) c = enough-one x.on_main x.on_spare n x.message _ _ (length xs) c.0 (enough (suc n) xs c.1)

pub list-handed : ListHanded
unfolding handed faultless parts_of
list-handed sent few w c =
    let a = reads-line (λ y. y.on_main) (length (main_line sent)) 0 0 sent (omega arith) (omega arith) (omega arith) w in
    let b = reads-line (λ y. y.on_spare) (length (spare_line sent)) 0 0 sent (omega arith) (omega arith) (omega arith) w in
    rw (a.0, b.0, a.1, b.1) (sent-handed _ 0 sent (enough 0 sent c) c)

-- a run that came to its end keeps its number
zero_same : (x : ℕ) (t : Bool) → eqb x 0 ≡ t → (if t then 0 else x) ≡ x
zero_same x true e = sym (eqb-true x 0 e)
zero_same x false e = refl

numbered-same : (c : Call) → numbered 0 c ≡ c
unfolding numbered
numbered-same c =
    ap (λ (k : ℕ). record { returned = record { number = k; done = c.returned.done; written = c.returned.written; venue = c.returned.venue }; report = c.report })
    (zero_same c.returned.number (eqb c.returned.number 0) refl)

pub list-run : ListRun
unfolding feed
list-run room sent few w c = rw (list-handed sent few w c) (numbered-same (run room (joined (messages sent))))
