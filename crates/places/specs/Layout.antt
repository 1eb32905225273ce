-- The venue as numbers in one lent array, and the venue that they stand for.
--
--   from   numbers                                                             places
--      0   id, legging place of its series and side, price, quantity           128 regular
--    512   id, legs, ratios, class, limit + 2^31, quantity                     32 complex
--    704   parent, price, quantity                                             16 legging
--    752   status, bid, offer                                                  8 series
--    776   regular places in use, complex places in use, last id
--    779   price, size mod 2^32, size / 2^32                                   16 levels, by legging place
--    827   regular places, then complex places, known to be held
--    829   mask of the legging places filled
--    830   edition, message, figure, value                                     32 editions
--    958   figures in force: the increments of series 0 to 7, the percentage, in every second number
--    975   reserve and shown quantity of an order, as last written               128 regular, by their place
--   1231   the show-again flag: 0 where every order shows what it should
--   1232   messages of the last 20 generations, oldest first                   8 series
--   1392   the last id that a limited sweep looked at
--
-- Legs is 16 * the legging place of the first leg + that of the second; ratios is 256 * the ratio of the first leg + that of the second.
-- What stands in regular and complex places that are not in use means nothing. The numbers from 779 to 829, from 958 to 974 and the flag are kept
-- beside the venue. Figures stand apart, since of those next to each other a compiler keeps the first ones, edition 0's, as a table.
-- A fill writes an order's quantity alone: its reserve and its shown quantity are the numbers written, and no more than what is left.
use Rattle.std.specs.Prelude.{◌≡◌, Bool, true, false, ◌⊎◌, List, [], ◌∷◌, ◌++◌, ℕ, zero, suc, ◌+◌, ◌-◌, ◌*◌, ◌/◌, ◌%◌, ◌≤◌, ◌<◌, min, ℤ, pos, nat_abs, ◌+ℤ◌, ◌-ℤ◌, eqb, length, get_or, replicate, if◌then◌else◌}
use Rattle.std.proofs.lemmas.List.Edits.{sets as row}
use Rattle.rules.specs.declared.Regular.{Regular}
use Rattle.rules.specs.declared.Complex.{Complex}
use Rattle.rules.specs.declared.Legging.{Legging}
use Rattle.rules.specs.declared.Listed.{Listed}
use Rattle.rules.specs.declared.Edition.{Edition}
use Rattle.rules.specs.declared.Generations.{Generations}
use Rattle.rules.specs.declared.Venue.{Venue}
use Rattle.places.specs.declared.Level.{Level}
use Rattle.rules.specs.Words.{opposite, place_of, no_regular, no_complex, with_regular, with_complex}
use Rattle.rules.specs.Base.{held, keep}
use Rattle.rules.specs.Settings.{base_figure, sets, figure_now, increment}
use Rattle.rules.specs.Prices.{best_in, size_in}
use Rattle.rules.specs.Places.{holds_regular, holds_complex, packed, close_gaps}
use Rattle.rules.specs.Sound.{shows_fully}
use Rattle.rules.specs.Step.{mask}
use Rattle.places.specs.Offsets.{regular_key_at, regular_price_at, regular_quantity_at, complex_id_at, complex_legs_at, complex_ratios_at, complex_class_at}
use Rattle.places.specs.Offsets.{complex_limit_at, complex_quantity_at, legging_parent_at, legging_price_at, legging_quantity_at, series_status_at}
use Rattle.places.specs.Offsets.{series_bid_at, series_offer_at, regulars_used_at, complexes_used_at, last_id_at, level_price_at, level_low_at, level_high_at}
use Rattle.places.specs.Offsets.{regulars_known_at, complexes_known_at, legging_mask_at, edition_number_at, edition_message_at, edition_figure_at}
use Rattle.places.specs.Offsets.{edition_value_at, figures_at, regular_reserve_at, regular_display_at, show_again_at, generation_messages_at, id_reached_at}

-- how many numbers a venue is
abbrev pub size : ℕ
size = 1393

-- f of each number from i on, k of them
unfoldable pub upto : {A : Type 0} → (ℕ → A) → (i k : ℕ) → List A
upto f i zero = []
upto f i (suc k) = f i ∷ upto f (suc i) k

-- the first `used` of `all` places, and free ones after them
unfoldable pub in_use : {A : Type 0} → (ℕ → A) → A → (used all : ℕ) → List A
in_use f none used all = upto f 0 used ++ replicate (all - used) none

-- the places in use
unfoldable pub regulars_used : List ℕ → ℕ
regulars_used b = min (get_or b regulars_used_at 0) 128

unfoldable pub complexes_used : List ℕ → ℕ
complexes_used b = min (get_or b complexes_used_at 0) 32

-- what stands at a place
unfoldable pub regular_in : List ℕ → ℕ → Regular
regular_in b i = record {
  id = get_or b (4 * i) 0;
  series = get_or b (4 * i + regular_key_at) 0 % 16 / 2;
  side = get_or b (4 * i + regular_key_at) 0 % 2;
  price = get_or b (4 * i + regular_price_at) 0;
  quantity = get_or b (4 * i + regular_quantity_at) 0;
  display = min (get_or b (2 * i + regular_display_at) 0) (get_or b (4 * i + regular_quantity_at) 0);
  reserve = min (get_or b (2 * i + regular_reserve_at) 0) (get_or b (4 * i + regular_quantity_at) 0);
}

unfoldable pub complex_in : List ℕ → ℕ → Complex
complex_in b i = record {
  id = get_or b (6 * i + complex_id_at) 0;
  series1 = get_or b (6 * i + complex_legs_at) 0 % 256 / 32;
  side1 = get_or b (6 * i + complex_legs_at) 0 / 16 % 2;
  series2 = get_or b (6 * i + complex_legs_at) 0 % 16 / 2;
  side2 = get_or b (6 * i + complex_legs_at) 0 % 2;
  class = get_or b (6 * i + complex_class_at) 0 % 256;
  limit = pos (get_or b (6 * i + complex_limit_at) 0) -ℤ pos 2147483648;
  quantity = get_or b (6 * i + complex_quantity_at) 0;
  ratio1 = get_or b (6 * i + complex_ratios_at) 0 / 256 % 256;
  ratio2 = get_or b (6 * i + complex_ratios_at) 0 % 256;
}

unfoldable pub legging_in : List ℕ → ℕ → Legging
legging_in b n = record { parent = get_or b (3 * n + legging_parent_at) 0; price = get_or b (3 * n + legging_price_at) 0; quantity = get_or b (3 * n + legging_quantity_at) 0 }

unfoldable pub listed_in : List ℕ → ℕ → Listed
listed_in b s = record { status = get_or b (3 * s + series_status_at) 0 % 256; bid = get_or b (3 * s + series_bid_at) 0; offer = get_or b (3 * s + series_offer_at) 0 }

unfoldable pub edition_in : List ℕ → ℕ → Edition
edition_in b i = record {
  edition = get_or b (4 * i + edition_number_at) 0;
  message = get_or b (4 * i + edition_message_at) 0;
  figure = get_or b (4 * i + edition_figure_at) 0 % 256;
  value = get_or b (4 * i + edition_value_at) 0 % 256;
}

unfoldable pub generations_in : List ℕ → (series : ℕ) → Generations
generations_in b s = record { messages = upto (λ k. get_or b k 0) (20 * s + generation_messages_at) 20 }

-- an order's series and side as one number, by which a scan passes over the others, and so the legs of a complex order
unfoldable pub regular_key : Regular → ℕ
regular_key o = place_of o.series o.side

unfoldable pub legs_key : Complex → ℕ
legs_key c = 16 * place_of c.series1 c.side1 + place_of c.series2 c.side2

-- the ratios of a complex order as one number
unfoldable pub ratios_number : Complex → ℕ
ratios_number c = 256 * c.ratio1 + c.ratio2

-- the legs and the ratios of a complex order as one number, by which the search for a cross passes over the others
unfoldable pub cross_key : Complex → ℕ
cross_key c = 256 * ratios_number c + legs_key c

-- the key (cross_key) of an order whose legs face one of series s at side d with ratio q and one of t at e with r
unfoldable pub facing_key : (s d q t e r : ℕ) → ℕ
facing_key s d q t e r = 256 * (256 * q + r) + (16 * place_of s (opposite d) + place_of t (opposite e))

-- the venue that the numbers stand for
unfoldable pub venue_of : List ℕ → Venue
venue_of b = record {
  regular = in_use (regular_in b) no_regular (regulars_used b) 128;
  complex = in_use (complex_in b) no_complex (complexes_used b) 32;
  legging = upto (legging_in b) 0 16;
  series = upto (listed_in b) 0 8;
  editions = upto (edition_in b) 0 32;
  generations = upto (generations_in b) 0 8;
  last = get_or b last_id_at 0;
  reached = get_or b id_reached_at 0;
}

-- The numbers of a place ----------------------------------------------------------------------

-- an order's; those of what it shows stand apart
unfoldable pub regular_row : Regular → List ℕ
regular_row o = o.id ∷ place_of o.series o.side ∷ o.price ∷ o.quantity ∷ []

unfoldable pub reserve_row : Regular → List ℕ
reserve_row o = o.reserve ∷ o.display ∷ []

abbrev pub regular_put : List ℕ → (i : ℕ) → Regular → List ℕ
regular_put b i o = row (row b (4 * i) (regular_row o)) (2 * i + regular_reserve_at) (reserve_row o)

-- a reserve and a shown quantity that are kept whole
pub record Bounded (o : Regular) : Type 0 where
  pub display : o.display ≤ o.quantity
  pub reserve : o.reserve ≤ o.quantity

-- a limit's number: 2^31 above its value
unfoldable pub limit_number : ℤ → ℕ
limit_number z = nat_abs (z +ℤ pos 2147483648)

unfoldable pub complex_row : Complex → List ℕ
complex_row c = c.id ∷ legs_key c ∷ ratios_number c ∷ c.class ∷ limit_number c.limit ∷ c.quantity ∷ []

-- an edition's
unfoldable pub edition_row : Edition → List ℕ
edition_row e = e.edition ∷ e.message ∷ e.figure ∷ e.value ∷ []

-- a class, a limit and ratios that are kept whole
pub record ComplexBounded (c : Complex) : Type 0 where
  pub class : c.class < 256
  pub limit : pos (limit_number c.limit) -ℤ pos 2147483648 ≡ c.limit
  pub ratio1 : c.ratio1 < 256
  pub ratio2 : c.ratio2 < 256

-- Held places ---------------------------------------------------------------------------------

-- each of the first n places is held
abbrev pub Filled : {A : Type 0} → (A → Bool) → (ℕ → A) → ℕ → Type 0
Filled holds f n = (k : ℕ) → k < n → holds (f k) ≡ true

-- Levels: the best regular price of a series and side, and its total size --------------------

-- over a list of orders
unfoldable pub level_of : (series side : ℕ) → List Regular → Level
level_of s d os = record { price = best_in s d os; size = size_in s d (best_in s d os) os }

-- the one that is kept; n is the legging place of series and side
unfoldable pub level_in : List ℕ → (n : ℕ) → Level
level_in b n = record { price = get_or b (3 * n + level_price_at) 0; size = get_or b (3 * n + level_low_at) 0 + 4294967296 * get_or b (3 * n + level_high_at) 0 }

-- Figures: the increments and the percentage in force -----------------------------------------

-- the one that is kept
unfoldable pub figure_in : List ℕ → (figure : ℕ) → ℕ
figure_in b f = get_or b (2 * f + figures_at) 0 % 256

-- they are those in force, and no increment is 0
pub record Figured (b : List ℕ) : Type 0 where
  pub so : (f : ℕ) → f < 9 → figure_in b f ≡ figure_now (venue_of b) f
  pub some : (s : ℕ) → s < 8 → 0 < figure_in b s

-- from a to b the figures become those of edition 0, an edition's value becomes its figure's, or they become those in force; nothing else changes
pub record FiguresBase (a b : List ℕ) : Type 0 where
  pub others : (k : ℕ) → (k < figures_at) ⊎ (regular_reserve_at ≤ k) → get_or b k 0 ≡ get_or a k 0
  pub figures : (f : ℕ) → f < 9 → figure_in b f ≡ base_figure f

pub record FigureSet (e : Edition) (a b : List ℕ) : Type 0 where
  pub others : (k : ℕ) → (k < figures_at) ⊎ (regular_reserve_at ≤ k) → get_or b k 0 ≡ get_or a k 0
  pub figures : (f : ℕ) → f < 9 → figure_in b f ≡ (if sets f e then e.value else figure_in a f)

pub record FiguresCounted (a b : List ℕ) : Type 0 where
  pub others : (k : ℕ) → (k < figures_at) ⊎ (regular_reserve_at ≤ k) → get_or b k 0 ≡ get_or a k 0
  pub figures : (f : ℕ) → f < 9 → figure_in b f ≡ figure_now (venue_of b) f

-- What is kept beside the venue ---------------------------------------------------------------

-- every order that rests has a price, a shown quantity, and an id above those of the orders at places before it
pub record Orderly (os : List Regular) : Type 0 where
  pub priced : (i : ℕ) → held (get_or os i no_regular).quantity ≡ true → held (get_or os i no_regular).price ≡ true
  pub displays : (i : ℕ) → held (get_or os i no_regular).quantity ≡ true → held (get_or os i no_regular).display ≡ true
  pub rises : (i j : ℕ) → i < j → held (get_or os i no_regular).quantity ≡ true → held (get_or os j no_regular).quantity ≡ true → (get_or os i no_regular).id < (get_or os j no_regular).id

-- every order shows what it should
abbrev pub Fully : List Regular → Type 0
Fully os = (i : ℕ) → shows_fully (get_or os i no_regular) ≡ true

-- the show-again flag is 0: no order has to show again
unfoldable pub none_shows_again : List ℕ → Bool
none_shows_again b = eqb (get_or b show_again_at 0) 0

-- the ids of the orders that rest are below this one
abbrev pub Below : (id : ℕ) → List Regular → Type 0
Below id os = (i : ℕ) → held (get_or os i no_regular).quantity ≡ true → (get_or os i no_regular).id < id

-- 1 where a legging place is filled
unfoldable pub bit_of : Legging → ℕ
bit_of l = if held l.quantity then 1 else 0

-- what is known of the places: those known to be held are, and the mask is that of the legging places; the figures are those in force; and without
-- the show-again flag every order shows what it should
pub record Marked (b : List ℕ) : Type 0 where
  pub regulars : Filled holds_regular (regular_in b) (min (get_or b regulars_known_at 0) (regulars_used b))
  pub complexes : Filled holds_complex (complex_in b) (min (get_or b complexes_known_at 0) (complexes_used b))
  pub legging : get_or b legging_mask_at 0 ≡ mask (venue_of b).legging
  pub figures : Figured b
  pub shows : none_shows_again b ≡ true → Fully (venue_of b).regular

-- and the levels are those of the regular orders, which are in order
pub record Right (b : List ℕ) : Type 0 where
  pub levels : (s d : ℕ) → s < 8 → d < 2 → level_in b (place_of s d) ≡ level_of s d (venue_of b).regular
  pub orders : Orderly (venue_of b).regular
  pub marked : Marked b

-- from a to b the levels stay as they are, and r regular and c complex places are in use
pub record Beside (r c : ℕ) (a b : List ℕ) : Type 0 where
  pub regulars : regulars_used b ≡ r
  pub complexes : complexes_used b ≡ c
  pub levels : (n : ℕ) → n < 16 → level_in b n ≡ level_in a n
  pub marked : Marked a → Marked b

-- as many as before
abbrev pub SameBeside : (a b : List ℕ) → Type 0
SameBeside a b = Beside (regulars_used a) (complexes_used a) a b

-- from a to b the level at n becomes l, and nothing else changes
pub record LevelPut (n : ℕ) (l : Level) (a b : List ℕ) : Type 0 where
  pub venue : venue_of b ≡ venue_of a
  pub regulars : regulars_used b ≡ regulars_used a
  pub complexes : complexes_used b ≡ complexes_used a
  pub here : level_in b n ≡ l
  pub others : (m : ℕ) → m < 16 → (m ≡ n → ⊥) → level_in b m ≡ level_in a m
  pub marked : Marked a → Marked b

-- from a to b what is kept stays right, and r regular and c complex places are in use
pub record Counts (r c : ℕ) (a b : List ℕ) : Type 0 where
  pub regulars : regulars_used b ≡ r
  pub complexes : complexes_used b ≡ c
  pub right : Right a → Right b

-- as many as before
abbrev pub SameCounts : (a b : List ℕ) → Type 0
SameCounts a b = Counts (regulars_used a) (complexes_used a) a b

-- Gaps ----------------------------------------------------------------------------------------

-- every place in use is held, and what is kept beside the venue is right
pub record Dense (b : List ℕ) : Type 0 where
  pub regulars : Filled holds_regular (regular_in b) (regulars_used b)
  pub complexes : Filled holds_complex (complex_in b) (complexes_used b)
  pub right : Right b

-- one book's gaps closed
unfoldable pub close_regulars : Venue → Venue
close_regulars v = with_regular v (packed holds_regular no_regular v.regular)

unfoldable pub close_complexes : Venue → Venue
close_complexes v = with_complex v (packed holds_complex no_complex v.complex)

-- the places that a book's closing leaves in use
abbrev pub regulars_held : List ℕ → ℕ
regulars_held b = length (keep holds_regular (venue_of b).regular)

abbrev pub complexes_held : List ℕ → ℕ
complexes_held b = length (keep holds_complex (venue_of b).complex)

-- from a to b the gaps of one book, or of both, are closed
pub record RegularsClosed (a b : List ℕ) : Type 0 where
  pub venue : venue_of b ≡ close_regulars (venue_of a)
  pub counts : Counts (regulars_held a) (complexes_used a) a b
  pub filled : Filled holds_regular (regular_in b) (regulars_used b)

pub record ComplexesClosed (a b : List ℕ) : Type 0 where
  pub venue : venue_of b ≡ close_complexes (venue_of a)
  pub counts : Counts (regulars_used a) (complexes_held a) a b
  pub filled : Filled holds_complex (complex_in b) (complexes_used b)

pub record GapsClosed (a b : List ℕ) : Type 0 where
  pub venue : venue_of b ≡ close_gaps (venue_of a)
  pub counts : Counts (regulars_held a) (complexes_held a) a b
  pub dense : Dense b

-- A venue's places, loaded --------------------------------------------------------------------

-- held places first, each as asked, and free places as none
pub record Placed {A : Type 0} (holds : A → Bool) (none : A) (Asked : A → Type 0) (l : List A) : Type 0 where
  pub dense : (i j : ℕ) → i < j → holds (get_or l j none) ≡ true → holds (get_or l i none) ≡ true
  pub blank : (i : ℕ) → holds (get_or l i none) ≡ false → get_or l i none ≡ none
  pub asked : (i : ℕ) → holds (get_or l i none) ≡ true → Asked (get_or l i none)

-- a series and a side
pub record OnSide (s d : ℕ) : Type 0 where
  pub series : s < 8
  pub side : d < 2

abbrev pub RegularsPlaced : List Regular → Type 0
RegularsPlaced = Placed holds_regular no_regular (λ o. OnSide o.series o.side × Bounded o)

abbrev pub ComplexesPlaced : List Complex → Type 0
ComplexesPlaced = Placed holds_complex no_complex (λ c. OnSide c.series1 c.side1 × OnSide c.series2 c.side2)

-- what a load asks of a venue; a sound one has it (proofs/Loaded.antt)
pub record Loadable (v : Venue) : Type 0 where
  pub regulars : RegularsPlaced v.regular
  pub complexes : ComplexesPlaced v.complex
  pub orders : Orderly v.regular
  pub shows : Fully v.regular
  pub increments : (s : ℕ) → s < 8 → 0 < increment v s

-- from a to b one book becomes l, and is dense
pub record RegularsLoaded (a : List ℕ) (l : List Regular) (b : List ℕ) : Type 0 where
  pub venue : venue_of b ≡ with_regular (venue_of a) l
  pub complexes : complexes_used b ≡ complexes_used a
  pub filled : Filled holds_regular (regular_in b) (regulars_used b)

pub record ComplexesLoaded (a : List ℕ) (l : List Complex) (b : List ℕ) : Type 0 where
  pub venue : venue_of b ≡ with_complex (venue_of a) l
  pub regulars : regulars_used b ≡ regulars_used a
  pub filled : Filled holds_complex (complex_in b) (complexes_used b)

-- from a to b mask and figures are counted, no place is known to be held, and the flag is 0; so what is known is right where no increment is 0
-- and every order shows what it should
pub record BesideCounted (a b : List ℕ) : Type 0 where
  pub venue : venue_of b ≡ venue_of a
  pub regulars : regulars_used b ≡ regulars_used a
  pub complexes : complexes_used b ≡ complexes_used a
  pub marked : ((s : ℕ) → s < 8 → 0 < increment (venue_of a) s) → Fully (venue_of a).regular → Marked b

-- b stands for v, all places in use are held, none is known to be, and mask, figures and flag are right
pub record Laid (v : Venue) (b : List ℕ) : Type 0 where
  pub venue : venue_of b ≡ v
  pub regulars : Filled holds_regular (regular_in b) (regulars_used b)
  pub complexes : Filled holds_complex (complex_in b) (complexes_used b)
  pub marked : Marked b

-- b stands for v, and is dense
pub record Loaded (v : Venue) (b : List ℕ) : Type 0 where
  pub venue : venue_of b ≡ v
  pub dense : Dense b
