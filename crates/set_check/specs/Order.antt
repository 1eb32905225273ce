-- Document 02 (h): a set's records in one pass, each beside what the ones before it leave: its order, its counts and its fields' places.
use Rattle.std.specs.Prelude.{Result, Ok, Err, Bool, true, false, not, ◌&&◌, ◌||◌, List, [], ◌∷◌, ℕ, ◌+◌, ◌-◌, ◌/◌, ◌%◌, leb, ltb, eqb, if◌then◌else◌}
use Rattle.rules.specs.Base.{all}
use Rattle.rules.specs.Bytes.{u8_at, length_field, kind_field}
use Rattle.rules.specs.Refusals.{torn}
use Rattle.sets.specs.Set.{Held, broken, row, set_length, part, sort_key, generation_told, tells_edition, tells_regular, tells_complex, tells_legging, tells_generation, of_whole, of_short, has_place}
use Rattle.set_check.specs.declared.Front.{Front}
use Rattle.set_check.specs.declared.Front.TheVariants.{End, Broken, Record}
use Rattle.set_check.specs.declared.SetProgress.{SetProgress}
use Rattle.set_check.specs.declared.SetError.{SetError}
use Rattle.set_check.specs.declared.SetError.TheVariants.{NoSet, NoPlace}

-- Frames --------------------------------------------------------------------------------------

-- what stands in front of the bytes left: the end of the set, what is torn or of a kind or length not the set's, or a record of this length
unfoldable pub front_of : List ℕ → Front
front_of bs =
    if eqb (length_field bs) 0 then End
    else if torn bs || not (eqb (length_field bs) (set_length (kind_field bs))) then Broken
    else Record (length_field bs)

-- Order ---------------------------------------------------------------------------------------

-- how many records a set begins with: its first one, and two for each series
abbrev pub opening : ℕ
opening = 17

-- nothing read yet
unfoldable pub none_read : SetProgress
none_read = record {
  opened = 0;
  whole = false;
  part = 0;
  key = 0;
  told = 0;
  editions = 0;
  regulars = 0;
  complexes = 0;
  leggings = 0;
  run = 0;
  placed = true;
}

-- one of the first records: of kind 80 or 81, and then of kinds 5 and 4 for each series in turn
unfoldable pub opens : SetProgress → List ℕ → Bool
opens st r =
    if eqb st.opened 0 then eqb (kind_field r) 80 || eqb (kind_field r) 81
    else eqb (kind_field r) (4 + st.opened % 2) && eqb (u8_at r 4) ((st.opened - 1) / 2)

-- a record after them is of a kind that this set has
unfoldable pub of_this : SetProgress → List ℕ → Bool
of_this st r = if st.whole then of_whole r else of_short r

-- generations of one series
unfoldable pub same_series : SetProgress → List ℕ → Bool
same_series st r = eqb st.part 4 && eqb st.key (sort_key r)

-- it may stand after the record before it
unfoldable pub may_stand : SetProgress → List ℕ → Bool
may_stand st r = ltb st.part (part r) || (eqb st.part (part r) && (ltb st.key (sort_key r) || (same_series st r && leb st.told (generation_told r))))

unfoldable pub is_next : SetProgress → List ℕ → Bool
is_next st r = if ltb st.opened opening then opens st r else (of_this st r && may_stand st r)

-- 1 for what is so
unfoldable pub one_if : Bool → ℕ
one_if true = 1
one_if false = 0

-- how many of the first records were read, this one too
unfoldable pub opened_after : SetProgress → ℕ
opened_after st = if ltb st.opened opening then st.opened + 1 else st.opened

-- the first record tells a whole set from a short one
unfoldable pub is_whole : SetProgress → List ℕ → Bool
is_whole st r = if eqb st.opened 0 then eqb (kind_field r) 80 else st.whole

-- how many generations of one series there are in a row, this record too
unfoldable pub run_with : SetProgress → List ℕ → ℕ
run_with st r = if same_series st r then st.run + one_if (tells_generation r) else one_if (tells_generation r)

-- what a record leaves of the standing before it
unfoldable pub onward : SetProgress → List ℕ → SetProgress
onward st r = record {
  opened = opened_after st;
  whole = is_whole st r;
  part = part r;
  key = sort_key r;
  told = generation_told r;
  editions = st.editions + one_if (tells_edition r);
  regulars = st.regulars + one_if (tells_regular r);
  complexes = st.complexes + one_if (tells_complex r);
  leggings = st.leggings + one_if (tells_legging r);
  run = run_with st r;
  placed = st.placed && has_place r;
}

-- not one too many
unfoldable pub few : SetProgress → Bool
few st = leb st.editions 32 && leb st.regulars 128 && leb st.complexes 32 && leb st.leggings 16 && leb st.run 20

-- from a standing on, the records are those of a set, to its end
unfoldable pub goes_on : SetProgress → List (List ℕ) → Bool
goes_on st [] = not (ltb st.opened opening)
goes_on st (r ∷ rs) = is_next st r && few (onward st r) && goes_on (onward st r) rs

-- 0, 16 or 9 from a standing on: "16 comes before 9"
unfoldable pub looked_at : SetProgress → Held → ℕ
looked_at st broken = 16
looked_at st (row rs) = if goes_on st rs then (if st.placed && all has_place rs then 0 else 9) else 16

-- the number of an error: "16 where it holds none, 9 what no venue has a place for"
abbrev pub error_number : SetError → ℕ
error_number NoSet = 16
error_number NoPlace = 9

-- the number that a look answers; 0 where a set is taken
abbrev pub number_of : Result (Unit {0}) SetError → ℕ
number_of (Ok x) = 0
number_of (Err e) = error_number e
