-- `book::first_shown` meets its contract.
use mathlib.Core.Path.{◌≡◌, sym, ap, ◌∙◌}
use mathlib.Core.Bool.{true}
use mathlib.Core.List.{List}
use Prim.Native.Nat.{ℕ}
use lib.ListN.{get_or}
use Rattle.rules.specs.Base.{held, first}
use Rattle.rules.specs.Words.{opposite, no_regular, earlier}
use Rattle.rules.specs.Prices.{shown_size, shows_for, best_in, best_regular}
use Rattle.rules.specs.Generation.{reaches_any}
use Rattle.places.specs.Layout.{none_shows_again, venue_of, Right}
use Rattle.book.specs.Picks.{pick_of}
use Rattle.book.proofs.PicksLaws.{fully-some}
use Rattle.book.proofs.Unmet.{unmet}
use Rattle.book.proofs.Earliest.{met-earliest}
use borrow.Author.Rules.{rules}
use Rattle.book.proofs.first_shown.Goals as goal

some : {b : List ℕ} → Right b → none_shows_again b ≡ true → (i : ℕ) → held (get_or (venue_of b).regular i no_regular).quantity ≡ true → held (shown_size (get_or (venue_of b).regular i no_regular)) ≡ true
some r u i h = fully-some _ h (r.orders.displays i h) (r.marked.shows u i)

-- the best price of the other side, as it is asked

pub best_regular-best-requires : goal.best_regular-best-requires
unfolding opposite
best_regular-best-requires c = search rules

-- every order shows some size

pub returns-then-not-reaches_any : goal.returns-then-not-reaches_any
unfolding pick_of best_regular
returns-then-not-reaches_any c =
    let best-asked : c.reaches_any.result
    ≡ reaches_any c.args.side c.args.price
    (best_in c.args.series (opposite c.args.side)
    (venue_of c.args.numbers.now).regular) = c.reaches_any.ensures
    ∙ ap (reaches_any c.args.side c.args.price)
    (c.best_regular-best.ensures ∙ ap (λ (d : ℕ). best_in c.args.series d (venue_of c.args.numbers.now).regular)
    c.opposite_of-other.ensures) in
    sym (ap pick_of (unmet c.args.series c.args.side c.args.price (venue_of c.args.numbers.now).regular c.requires.right.orders (some c.requires.right c.requires.shows)
    (sym best-asked ∙ c.if-not-reaches_any.true)))

pub returns : goal.returns
unfolding best_regular
returns c =
    let best-asked : c.reaches_any.result
    ≡ reaches_any c.args.side c.args.price
    (best_in c.args.series (opposite c.args.side)
    (venue_of c.args.numbers.now).regular) = c.reaches_any.ensures
    ∙ ap (reaches_any c.args.side c.args.price)
    (c.best_regular-best.ensures ∙ ap (λ (d : ℕ). best_in c.args.series d (venue_of c.args.numbers.now).regular)
    c.opposite_of-other.ensures) in
    let os = (venue_of c.args.numbers.now).regular in
    c.first_for.ensures
    ∙ ap (λ (d : ℕ). pick_of (first (shows_for c.args.series d c.best_regular-best.result) earlier os)) c.opposite_of-other.ensures
    ∙ ap (λ (p : ℕ). pick_of (first (shows_for c.args.series (opposite c.args.side) p) earlier os))
    (c.best_regular-best.ensures ∙ ap (λ (d : ℕ). best_in c.args.series d os) c.opposite_of-other.ensures)
    ∙ sym (ap pick_of (met-earliest c.args.series c.args.side c.args.price os c.requires.right.orders (some c.requires.right c.requires.shows)
    (sym best-asked ∙ c.if-not-reaches_any.false)))
