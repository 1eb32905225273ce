-- An edition entered.
use mathlib.Core.Path.{◌≡◌, sym, ap, ◌∙◌}
use mathlib.Core.Bool.{false, not}
use mathlib.Core.List.{List}
use Prim.Native.Nat.{ℕ, ◌<◌}
use native.Mathlib.Omega.{arith}
use lib.ListN.{get_or, set}
use borrow.Author.Tests.{not-true}
use Rattle.rules.specs.declared.Venue.{Venue}
use Rattle.rules.specs.Words.{no_edition, with_editions}
use Rattle.rules.specs.Places.{holds_edition}
use Rattle.rules.specs.Settings.{free_edition, enter_edition}
use Rattle.rules.specs.Step.{set_figure}
use Rattle.rules.proofs.Finding.{where-passes}
use Rattle.places.specs.Layout.{edition_in, venue_of}
use Rattle.places.proofs.Tables.{upto-at}
use Rattle.place_writes.proofs.Figures.{editions-many}

pub place-free : (b : List ℕ) (i : ℕ) → i ≡ free_edition (venue_of b) → free_edition (venue_of b) < 32 → holds_edition (edition_in b i) ≡ false
unfolding free_edition
place-free b i e h =
    let n = editions-many b in
    ap holds_edition (sym (ap (λ (k : ℕ). get_or (venue_of b).editions k no_edition) (sym e) ∙ at i (omega arith)))
    ∙ not-true _ (where-passes no_edition (λ x. not (holds_edition x)) (venue_of b).editions (omega arith))
  where
    at : (i : ℕ) → i < 32 → get_or (venue_of b).editions i no_edition ≡ edition_in b i
    at i q = unfold venue_of in (upto-at (edition_in b) no_edition 0 32 i q ∙ ap (edition_in b) (omega arith))

pub figure-set : (v w : Venue) (number f x edition i : ℕ) → i ≡ free_edition v →
    w ≡ with_editions v (set v.editions i (record { edition = edition; message = number; figure = f; value = x })) → w ≡ set_figure number f x edition v
unfolding set_figure enter_edition
figure-set v w number f x edition i e p =
    p ∙ ap (λ (k : ℕ). with_editions v (set v.editions k (record { edition = edition; message = number; figure = f; value = x }))) e
