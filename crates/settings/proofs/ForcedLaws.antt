-- A figure's value through the row of editions, and the settings of a venue that is sound or not.
use Rattle.std.specs.Prelude.{if◌then◌else◌}
use mathlib.Core.Path.{◌≡◌, refl, sym, ap, ap₂, ◌∙◌}
use mathlib.Core.Bool.{Bool, true, false, ◌&&◌}
use mathlib.Core.List.{List, [], ◌∷◌, map}
use Prim.Native.Nat.{ℕ, ◌+◌, ◌≤◌, ◌<◌}
use native.Mathlib.Numerals.{add-one}
use lib.Dec.{leb}
use lib.ListN.{length, get_or, drop, replicate, drop_of_length-le}
use lib.Seq.{drop-cons}
use Rattle.rules.specs.declared.Edition.{Edition}
use Rattle.rules.specs.declared.Venue.{Venue}
use Rattle.rules.specs.Base.{keep}
use Rattle.rules.specs.Words.{no_edition}
use Rattle.rules.specs.Settings.{base_figure, sets, last_value, in_force}
use Rattle.rules.specs.Sound.{sound}
use Rattle.rules.specs.Calls.{settings}
use Rattle.settings.specs.Forced.{value_after, value_at}

-- The row, from a place on --------------------------------------------------------------------

-- x is the value before place i
unfoldable pub value_from : (number figure x : ℕ) → List Edition → ℕ
value_from n f x es = last_value f x (keep (λ e. leb e.message n) es)

module _ (n f : ℕ) where
  pub value-first : (x : ℕ) (es : List Edition) → x ≡ base_figure f → value_from n f x es ≡ value_at es n f
  unfolding value_from value_at
  value-first x es e = rw e

  one : (x : ℕ) (e : Edition) (es : List Edition) → value_from n f (value_after n f x e) es ≡ value_from n f x (e ∷ es)
  unfolding value_from value_after keep last_value
  one x e es = go (leb e.message n)
    where
      rest : List Edition
      rest = keep (λ k. leb k.message n) es

      go : (t : Bool) → last_value f (if t && sets f e then e.value else x) rest ≡ last_value f x (if t then e ∷ rest else rest)
      go true = refl
      go false = refl

  pub value-next : (x y : ℕ) (es : List Edition) (i : ℕ) → i < length es → y ≡ value_after n f x (get_or es i no_edition) →
      value_from n f y (drop (i + 1) es) ≡ value_from n f x (drop i es)
  value-next x y es i h e =
      ap₂ (λ (z k : ℕ). value_from n f z (drop k es)) e (add-one i) ∙ one x (get_or es i no_edition) _ ∙ ap (value_from n f x) (sym (drop-cons es i no_edition h))

  pub value-last : (x : ℕ) (es : List Edition) (i : ℕ) → length es ≤ i → x ≡ value_from n f x (drop i es)
  unfolding value_from keep last_value
  value-last x es i h = sym (ap (value_from n f x) (drop_of_length-le es {i = i} h))

-- The settings --------------------------------------------------------------------------------

module _ (v : Venue) (n : ℕ) where
  pub settings-not : sound v ≡ false → record { number = 9; increments = replicate 8 0; percent = 0 } ≡ settings v n
  unfolding settings
  settings-not e = rw e

  pub settings-told : sound v ≡ true → (is : List ℕ) (p : ℕ) → is ≡ map (value_at v.editions n) (0 ∷ 1 ∷ 2 ∷ 3 ∷ 4 ∷ 5 ∷ 6 ∷ 7 ∷ []) → p ≡ value_at v.editions n 8 →
      record { number = 0; increments = is; percent = p } ≡ settings v n
  unfolding settings in_force value_at
  settings-told e is p q r = rw e (ap₂ (λ (x : List ℕ) (y : ℕ). record { number = 0; increments = x; percent = y }) q r)
