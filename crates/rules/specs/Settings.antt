-- Document 02 (d), "Settings with dates": the increments and the band's percentage, by editions. A figure is one of nine numbers: 0 to 7
-- is the increment of that series, 8 the percentage.
use Rattle.std.specs.Prelude.{Bool, not, ◌&&◌, ◌||◌, List, [], ◌∷◌, ℕ, leb, ltb, eqb, set, if◌then◌else◌}
use Rattle.rules.specs.declared.Edition.{Edition}
use Rattle.rules.specs.declared.Venue.{Venue}
use Rattle.rules.specs.Base.{held, keep, place_where}
use Rattle.rules.specs.Words.{within, with_editions}

-- Figures -------------------------------------------------------------------------------------

-- the figure that is no series' increment
abbrev pub percentage : ℕ
percentage = 8

-- "Kind 7 carries … increment u8 (1, 5 or 10)"
unfoldable pub is_increment : ℕ → Bool
is_increment x = eqb x 1 || eqb x 5 || eqb x 10

-- "Kind 8 carries percent u8 (0 to 50)"
unfoldable pub is_percent : ℕ → Bool
is_percent = within 0 50

-- "edition u32"
unfoldable pub is_edition : ℕ → Bool
is_edition = within 0 4294967295

-- "the old figures are edition 0, held apart from the 32": "5 in series 0 to 5, 10 in series 6 and 7", and "ACE of 5 percent"
unfoldable pub base_figure : (figure : ℕ) → ℕ
base_figure f = if ltb f 6 then 5 else if ltb f 8 then 10 else 5

-- What is in force ----------------------------------------------------------------------------

-- an edition sets a figure; a free place sets none
unfoldable pub sets : (figure : ℕ) → Edition → Bool
sets f e = held e.edition && eqb e.figure f

-- the last value of a figure in a list of editions; x where none sets it
unfoldable pub last_value : (figure x : ℕ) → List Edition → ℕ
last_value f x [] = x
last_value f x (e ∷ es) = last_value f (if sets f e then e.value else x) es

-- "in force at any message number: of each, the last entered by a message numbered no higher"
unfoldable pub in_force : Venue → (number figure : ℕ) → ℕ
in_force v n f = last_value f (base_figure f) (keep (λ e. leb e.message n) v.editions)

-- "Every band and increment in the rules reads the edition in force": no edition kept has a number above that of the message at hand
-- (`follows`), so it is the last of all that are kept
unfoldable pub figure_now : Venue → (figure : ℕ) → ℕ
figure_now v f = last_value f (base_figure f) v.editions

-- "its series' increment"
unfoldable pub increment : Venue → (series : ℕ) → ℕ
increment v s = figure_now v s

-- the band's percentage
unfoldable pub percent : Venue → ℕ
percent v = figure_now v percentage

-- Editions ------------------------------------------------------------------------------------

-- the first free place; past the end if all are held
unfoldable pub free_edition : Venue → ℕ
free_edition v = place_where (λ e. not (held e.edition)) v.editions

-- an edition is entered
unfoldable pub enter_edition : Edition → Venue → Venue
enter_edition e v = with_editions v (set v.editions (free_edition v) e)
