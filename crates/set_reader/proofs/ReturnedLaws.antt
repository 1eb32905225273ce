-- The answer of a reading call.
use Rattle.std.specs.Prelude.{if◌then◌else◌}
use mathlib.Core.Path.{◌≡◌, refl, sym, ap, ap₂, ◌∙◌}
use mathlib.Core.Bool.{Bool, true, false}
use mathlib.Core.List.{List}
use Prim.Native.Nat.{ℕ}
use native.Mathlib.Omega.{arith}
use Rattle.rules.specs.declared.Venue.{Venue}
use Rattle.rules.specs.Base.{all}
use Rattle.sets.specs.Set.{Held, broken, row, held_in, is_set, has_place, carries, number_told, venue_told, ReadSet, not_read, read_row, read_set}
use Rattle.set_check.specs.Order.{none_read, looked_at}
use Rattle.set_tables.specs.Told.{row_in, ReadableSet}
use Rattle.set_tables.proofs.Ordered.{set-goes}
use Rattle.set_tables.proofs.TableFilled.{row-in}

-- the set that was looked at
looked-set : (rs : List (List ℕ)) → looked_at none_read (row rs) ≡ (if is_set rs then (if all has_place rs then 0 else 9) else 16)
unfolding looked_at none_read
looked-set rs = ap (λ (t : Bool). if t then (if all has_place rs then 0 else 9) else 16) (set-goes rs)

looked-broken : looked_at none_read broken ≡ 16
unfolding looked_at
looked-broken = refl

module _ (m : List ℕ) where
  pub looked-taken : 0 ≡ looked_at none_read (held_in m) → ReadableSet m
  looked-taken h = go (held_in m) refl h
    where
      both : (rs : List (List ℕ)) → held_in m ≡ row rs → (s p : Bool) → is_set rs ≡ s → all has_place rs ≡ p → ◌≡◌ {A = ℕ} 0 (if s then (if p then 0 else 9) else 16) → ReadableSet m
      both rs e true true f g k =
          let i = row-in m rs e in
          record { framed = e ∙ ap row (sym i); ordered = ap is_set i ∙ f; placed = ap (all has_place) i ∙ g }
      both rs e true false f g k = absurd (omega arith)
      both rs e false p f g k = absurd (omega arith)

      go : (x : Held) → held_in m ≡ x → 0 ≡ looked_at none_read x → ReadableSet m
      go broken e k = let z = k ∙ looked-broken in absurd (omega arith)
      go (row rs) e k = both rs e (is_set rs) (all has_place rs) refl refl (k ∙ looked-set rs)

  held-read : (h : Held) → held_in m ≡ h → read_set m ≡ elim h [ broken ↦ not_read 16 | row rs ↦ read_row rs ]
  unfolding read_set
  held-read h e = rw (e, read_set)

  -- what was looked at is refused
  pub looked-refused : (n : ℕ) → n ≡ looked_at none_read (held_in m) → (n ≡ 0 → ⊥) → not_read n ≡ read_set m
  looked-refused n h some = go (held_in m) refl h
    where
      both : (rs : List (List ℕ)) → (s p : Bool) → is_set rs ≡ s → all has_place rs ≡ p → n ≡ (if s then (if p then 0 else 9) else 16) → not_read n ≡ read_row rs
      both rs true true f g k = absurd (some k)
      both rs true false f g k = ap not_read k ∙ (unfold read_row in (rw (f, g)))
      both rs false p f g k = ap not_read k ∙ (unfold read_row in (rw f))

      go : (x : Held) → held_in m ≡ x → n ≡ looked_at none_read x → not_read n ≡ read_set m
      go broken e k = ap not_read (k ∙ looked-broken) ∙ sym (held-read broken e)
      go (row rs) e k = both rs (is_set rs) (all has_place rs) refl refl (k ∙ looked-set rs) ∙ sym (held-read (row rs) e)

  module _ (t : ReadableSet m) (v : Venue) (told : v ≡ venue_told (row_in m)) (number : ℕ) (says : number ≡ number_told (row_in m)) (ready : Bool) (asked : ready ≡ carries number v) where
    same : ready ≡ carries (number_told (row_in m)) (venue_told (row_in m))
    same = asked ∙ ap₂ carries says told

    pub carries-refused : ready ≡ false → not_read 9 ≡ read_set m
    carries-refused r = sym (held-read (row (row_in m)) t.framed ∙ (unfold read_row in (rw (t.ordered, t.placed, sym same ∙ r))))

    pub carries-read : ready ≡ true → ◌≡◌ {A = ReadSet} (record { number = 0; venue = v; message = number }) (read_set m)
    carries-read r =
        ap₂ (λ (x : Venue) (n : ℕ). record { number = 0; venue = x; message = n }) told says
        ∙ sym (held-read (row (row_in m)) t.framed ∙ (unfold read_row in (rw (t.ordered, t.placed, sym same ∙ r))))
