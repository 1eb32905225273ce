use Rattle.std.proofs.Common.{◌≡◌, ℕ, ◌+◌, ◌-◌, ◌≤◌, List, ◌++◌, rules, arith, length, take, slice_range, sym, ap, ◌∙◌, subst, le_refl, drop_at, length-take-le}
use Rattle.std.proofs.lemmas.Slice.{take-put_mid_below}
use Rattle.std.specs.Io.KnownBytes.{Consumes}
use Rattle.std.proofs.KnownBytes.{Consumes-trans}
use borrow.Rule.Slice.PartMut.{put_mid, post_of}
use lib.Seq.{take-add, take-append-le}
use Rattle.sheet.proofs.read_input.Goals as goal

-- the front and the part after it
joined : (a b : ℕ) (old new : List ℕ) → a ≤ b → take a new ≡ take a old → take a old ++ slice_range new a b ≡ take b new
joined a b old new h front =
    let same : a + (b - a) ≡ b = omega arith in
    ap (λ l. l ++ slice_range new a b) (sym front) ∙ sym (take-add a (b - a) new) ∙ ap (λ n. take n new) same

-- the part that was written
part-written : (a k n : ℕ) (xs ys : List ℕ) → a ≤ length xs → n ≤ length ys → slice_range (put_mid a k xs ys) a (a + n) ≡ take n ys
part-written a k n xs ys within fits =
    let same : (a + n) - a ≡ n = omega arith in
    let after = post_of a k xs in
    ap (take ((a + n) - a)) (drop_at (take a xs) (ys ++ after) a (length-take-le a xs within)) ∙ ap (λ m. take m (ys ++ after)) same ∙ take-append-le n ys after fits

pub loop-done-preserved : goal.loop-done-preserved
loop-done-preserved g c =
    let from = c.loop-done.done in
    let old = c.loop-done.buf in
    let room = length old - from in
    let before = c.loop-done.invariant in
    let part = part-written from room c.in_ok-more.more old c.read.new.buf before.within c.in_ok-more.ensures.bound.0 in
    let whole = joined from (from + c.in_ok-more.more) old (put_mid from room old c.read.new.buf) (omega arith) (take-put_mid_below _ _ _ _ _ (le_refl _) before.within) in
    record {
      same = search rules;
      within = search rules;
      bytes = subst (Consumes _ _) (ap (λ l. take from old ++ l) (sym part) ∙ whole) (Consumes-trans _ _ _ _ _ before.bytes c.in_ok-more.ensures.bytes.0);
    }
