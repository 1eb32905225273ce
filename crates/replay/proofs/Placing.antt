-- Effects that change legging places and generations alone: removals, and what is generated. Their records tell it upon any venue that has the same of these.
use Rattle.std.specs.Prelude.{if◌then◌else◌}
use mathlib.Core.Path.{◌∙◌, ◌≡◌, ap, refl, sym}
use mathlib.Core.Bool.{Bool, ◌&&◌, false, true}
use mathlib.Core.List.{List, [], ◌++◌, ◌∷◌, append_assoc}
use Prim.Native.Nat.{◌%◌, ◌/◌, suc, ℕ}
use native.Mathlib.Omega.{arith}
use lib.ListN.{length, length-append}
use lib.Seq.{set_at}
use Rattle.rules.specs.declared.Complex.{Complex}
use Rattle.rules.specs.declared.Legging.{Legging}
use Rattle.rules.specs.declared.Venue.{Venue}
use Rattle.rules.specs.declared.Verdict.{Verdict}
use Rattle.rules.specs.declared.Verdict.TheVariants.{Fails, Stands}
use Rattle.rules.specs.Base.{held}
use Rattle.rules.specs.Words.{no_legging, place_of, with_generations, with_legging}
use Rattle.rules.specs.Records.{generated, removed}
use Rattle.rules.specs.Effects.{Effect, ◌⟫◌, nothing, report}
use Rattle.rules.specs.Removal.{goes, leavers, remove, stay, stayers}
use Rattle.rules.specs.Generation.{counted, generate, generate_leg, generations_of, make, makes, new_legging, placed}
use Rattle.rules.specs.Complex.{each_of}
use Rattle.rules.proofs.Cases.{if-by}
use Rattle.replay.specs.Replay.{State, next, noted, replay}
use Rattle.replay.specs.Moments.{AtEach}
use Rattle.replay.proofs.TellsLaws.{Tells, TellsFrom, each_append, from-report, from_then, replay-append, tells-nothing}

-- Removals, place by place --------------------------------------------------------------------

place-back : (n : ℕ) → place_of (n / 2) (n % 2) ≡ n
unfolding place_of
place-back n = omega arith

module _ (f : ℕ → Legging → Verdict) (w : Venue) (x : State) where
  -- w with these legging places
  abbrev at : List Legging → State
  at ls = noted x (with_legging w ls)

  -- what goes from place n, the places of `front` before it
  one-goes : (x : Verdict) (front : List Legging) (l : Legging) (ls : List Legging) (n : ℕ) → length front ≡ n →
      replay (at (front ++ (l ∷ ls))) (goes n x l) ≡ at (front ++ (stay x l ∷ ls))
  unfolding goes stay replay
  one-goes Stands front l ls n e = refl
  one-goes (Fails c) front l ls n e = go (held l.quantity)
    where
      gone : next (removed l.parent (n / 2) (n % 2) c) (at (front ++ (l ∷ ls))) ≡ at (front ++ (no_legging ∷ ls))
      gone = unfold next noted placed with_legging in (rw (place-back n, set_at front l ls no_legging n e))

      go : (b : Bool) →
          replay (at (front ++ (l ∷ ls))) (if b then removed l.parent (n / 2) (n % 2) c ∷ [] else []) ≡ at (front ++ ((if b then no_legging else l) ∷ ls))
      go true = gone
      go false = refl

  all_go : (front ls : List Legging) (n : ℕ) → length front ≡ n → replay (at (front ++ ls)) (leavers f n ls) ≡ at (front ++ stayers f n ls)
  unfolding leavers stayers replay
  all_go front [] n e = refl
  all_go front (l ∷ ls) n e =
      let x = f n l in
      replay-append (at (front ++ (l ∷ ls))) (goes n x l) (leavers f (suc n) ls)
      ∙ ap (λ (s : State). replay s (leavers f (suc n) ls)) (one-goes x front l ls n e ∙ ap at (sym (append_assoc front (stay x l ∷ []) ls)))
      ∙ all_go (front ++ (stay x l ∷ [])) ls (suc n) (length-append front (stay x l ∷ []) ∙ (omega arith))
      ∙ ap at (append_assoc front (stay x l ∷ []) (stayers f (suc n) ls))

-- nothing is claimed at a removal's moment
goes-free : (n : ℕ) (x : Verdict) (l : Legging) (s : State) → AtEach s (goes n x l)
unfolding goes
goes-free n Stands l s = tt
goes-free n (Fails c) l s = go (held l.quantity)
  where
    go : (b : Bool) → AtEach s (if b then removed l.parent (n / 2) (n % 2) c ∷ [] else [])
    go true = (tt, tt)
    go false = tt

leavers-free : (f : ℕ → Legging → Verdict) (n : ℕ) (ls : List Legging) (s : State) → AtEach s (leavers f n ls)
unfolding leavers
leavers-free f n [] s = tt
leavers-free f n (l ∷ ls) s = each_append s (goes n (f n l) l) (leavers f (suc n) ls) (goes-free n (f n l) l s) (leavers-free f (suc n) ls _)

pub tells-remove : (f : ℕ → Legging → Verdict) (v : Venue) → Tells v (remove f v)
unfolding remove with_legging
tells-remove f v x = record { replays = all_go f v x [] v.legging 0 refl; moments = leavers-free f 0 v.legging _ }

-- Legging places and generations alone --------------------------------------------------------

-- w with the legging places and generations of v
unfoldable pub likened : (w v : Venue) → Venue
likened w v = with_generations (with_legging w v.legging) v.generations

-- the effect e upon v, in the message of a number, changes these alone, and upon any venue with v's its records tell how
pub record Places (number : ℕ) (v : Venue) (e : Effect) : Type 0 where
  pub keeps : e.venue ≡ likened v e.venue
  pub tells : (w : Venue) (x : State) → x.number ≡ number → TellsFrom x (likened w v) (record { venue = likened w e.venue; reports = e.reports })

pub places-remove : (number : ℕ) (f : ℕ → Legging → Verdict) (v : Venue) → Places number v (remove f v)
unfolding remove likened with_legging with_generations
places-remove number f v = record { keeps = refl; tells = λ w x _. unfold remove with_legging in (tells-remove f (likened w v) x) }

-- Generation ----------------------------------------------------------------------------------

module _ (number : ℕ) where
  places-nothing : (v : Venue) → Places number v (nothing v)
  unfolding nothing likened with_legging with_generations
  places-nothing v = record { keeps = refl; tells = λ w x _. unfold nothing in (tells-nothing (likened w v) x) }

  places_then : (v : Venue) (e : Effect) (f : Venue → Effect) → Places number v e → Places number e.venue (f e.venue) → Places number v (e ⟫ f)
  unfolding ◌⟫◌ likened with_legging with_generations
  places_then v e f a b = record {
    keeps = b.keeps ∙ ap (λ (x : Venue). likened x (f e.venue).venue) a.keeps;
    tells = λ w x n. from_then x (likened w v) (record { venue = likened w e.venue; reports = e.reports })
        (λ _. record { venue = likened w (f e.venue).venue; reports = (f e.venue).reports })
        (a.tells w x n) (b.tells w x n);
  }

  -- a 67: the legging order that it tells is given its place, and counts
  places-made : (l : Legging) (s d shown : ℕ) (v : Venue) →
      Places number v (report (generated l.parent s d l.price shown l.quantity) (counted number s (placed (place_of s d) l v)))
  unfolding report counted generations_of placed likened with_legging with_generations
  places-made l s d shown v = record {
    keeps = refl;
    tells = λ w x n. unfold report in (from-report x _ (likened w v) _
        (unfold next noted counted generations_of placed likened with_legging with_generations in (ap (λ (k : ℕ). noted x (likened w (counted k s (placed (place_of s d) l v)))) n)) tt);
  }

  places-make : (c : Complex) (s d : ℕ) (v : Venue) → Places number v (make number c s d v)
  unfolding make new_legging
  places-make c s d v = places_then v _ _ (places-remove number _ v) (places-made (new_legging v c s d) s d _ _)

  places-leg : (c : Complex) (s d : ℕ) (v : Venue) → Places number v (generate_leg number c s d v)
  unfolding generate_leg
  places-leg c s d v = if-by (Places number v) (held c.quantity && makes number v c s d) (λ _. places-make c s d v) (λ _. places-nothing v)

  pub places-generate : (i : ℕ) (v : Venue) → Places number v (generate number i v)
  unfolding generate
  places-generate i v = places_then v _ _ (places-leg _ _ _ v) (places-leg _ _ _ _)

  pub places-each_of : (places : List ℕ) (v : Venue) → Places number v (each_of (generate number) places v)
  unfolding each_of
  places-each_of [] v = places-nothing v
  places-each_of (i ∷ places) v = places_then v (generate number i v) _ (places-generate i v) (places-each_of places _)
