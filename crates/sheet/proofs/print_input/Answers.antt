use Rattle.std.proofs.Common.{◌≡◌, ℕ, ◌≤◌, ◌<◌, List, [], ◌++◌, length, take, refl, sym, ap, subst, ◌∙◌, rules, arith, append-nil, take_all, take_at, length-take-le, Bool, true, false, None, Some}
use lib.Dec.{ltb}
use borrow.Author.Tests.{ltb-true, ltb-false}
use Rattle.std.specs.declared.option.Option.{Option}
use Rattle.std.specs.Io.KnownBytes.{Appends, Consumes, IsAtEnd}
use Rattle.sheet.specs.Sheet.{most_input, sheet_text}
use Rattle.sheet.specs.Streams.{PrintsInput, ReadFrom}
use Rattle.std.proofs.lemmas.Result.{on_ok_weaker}
use Rattle.sheet.proofs.Errors.{ok_kept}
use Rattle.sheet.proofs.print_input.Goals as goal

-- what was read are the reader's first bytes
first_bytes : (xs ys memory : List ℕ) (n most : ℕ) → length memory ≡ most → n ≤ length memory → xs ≡ take n memory ++ ys → (n < length memory → ys ≡ []) → take n memory ≡ take most xs
first_bytes xs ys memory n most len fits e end = go (ltb n (length memory)) refl
  where
    long : length (take n memory) ≡ n
    long = length-take-le n memory fits

    go : (b : Bool) → ltb n (length memory) ≡ b → take n memory ≡ take most xs
    go true x =
        let short : xs ≡ take n memory = e ∙ ap (λ l. take n memory ++ l) (end (ltb-true n (length memory) x)) ∙ append-nil (take n memory) in
        sym (ap (take most) short ∙ take_all most (take n memory) (omega (arith, long)))
    go false x =
        let h = ltb-false n (length memory) x in
        sym (ap (take most) e ∙ take_at (take n memory) ys most (omega (arith, long)))

printed_of : (old new : Option (List ℕ)) (memory : List ℕ) (n : ℕ) (a b : Option (List ℕ)) → length memory ≡ most_input → n ≤ length memory →
    Consumes old new (take n memory) × (n < length memory → IsAtEnd new) → Appends a b (sheet_text (take n memory)) → PrintsInput [] old a b
printed_of None new memory n a b len fits r w = tt
printed_of (Some xs) None memory n a b len fits r w = absurd r.0
printed_of (Some xs) (Some ys) memory n a b len fits r w = subst (λ l. Appends a b (sheet_text l)) (first_bytes xs ys memory n most_input len fits r.0 r.1) w

pub returns : goal.returns
returns g c =
    let was = c.in_ok-n.ensures in
    let memory = c.read_input.new.buf in
    let fits = ok_kept _ _ _ (λ n. n ≤ length memory) _ was.cases was.variant c.read_input.ensures.within in
    let bytes = ok_kept _ _ _ (ReadFrom (g.R.Read.remaining c.args.reader.now) (g.R.Read.remaining c.read_input.new.reader) memory) _ was.cases was.variant c.read_input.ensures.bytes in
    on_ok_weaker c.print_list.result (printed_of _ _ memory c.in_ok-n.n _ _ (search rules) fits bytes) c.print_list.ensures
