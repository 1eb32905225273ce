-- The check of a venue held by value.
use Rattle.std.specs.Prelude.{◌≡◌, Bool, true, not, ◌&&◌, ◌||◌, List, [], ◌∷◌, ℕ, suc, leb}
use Rattle.rules.specs.declared.Regular.{Regular}
use Rattle.rules.specs.declared.Legging.{Legging}
use Rattle.rules.specs.declared.Venue.{Venue}
use Rattle.rules.specs.Base.{held, all}
use Rattle.rules.specs.Words.{is_id, is_price, is_quantity, one_to_one}
use Rattle.rules.specs.Standing.{has_leg, parent_of}
use Rattle.rules.specs.Refusals.{on_increment}
use Rattle.rules.specs.Complex.{rests_complex}
use Rattle.rules.specs.Sound.{apart, leggings_sound, ids_distinct, follows, sound}
use Rattle.places.specs.Layout.{Loaded}

-- a regular order, where it rests, has a price on the increment in force
unfoldable pub priced_on : Venue → Regular → Bool
priced_on v o = not (held o.quantity) || on_increment v o

unfoldable pub on_increments : Venue → Bool
on_increments v = all (priced_on v) v.regular

-- a regular order, where it rests, has its id alone
unfoldable pub is_alone : Venue → Regular → Bool
is_alone v o = not (held o.quantity) || not (rests_complex v o.id)

-- the eight series
abbrev pub eight : List ℕ
eight = 0 ∷ 1 ∷ 2 ∷ 3 ∷ 4 ∷ 5 ∷ 6 ∷ 7 ∷ []

-- the fields of a legging order
unfoldable pub legging_in_range : Legging → Bool
legging_in_range l = is_id l.parent && is_price l.price && is_quantity l.quantity

-- its parent rests, has this leg, is one to one, and has as much open
unfoldable pub has_home : Venue → Legging → (series side : ℕ) → Bool
has_home v l s d = has_leg (parent_of v l) s d && one_to_one (parent_of v l) && leb l.quantity (parent_of v l).quantity

-- what is asked of the last id, of prices beside the increments, and of orders beside one another
unfoldable pub orders_sound : Venue → Bool
orders_sound v = leb v.last 4294967295 && on_increments v && ids_distinct v && all (apart v) eight && leggings_sound v 0 v.legging

-- r tells whether v is sound; where it is, b stands for it
pub record Checked (v : Venue) (r : Bool) (b : List ℕ) : Type 0 where
  pub answer : r ≡ sound v
  pub loaded : r ≡ true → Loaded v b

-- r tells whether v is sound and the number after n above every edition's and generation's kept; where so, b stands for v
pub record Ready (v : Venue) (n : ℕ) (r : Bool) (b : List ℕ) : Type 0 where
  pub answer : r ≡ (sound v && follows (suc n) v)
  pub loaded : r ≡ true → Loaded v b
