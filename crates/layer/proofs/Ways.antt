-- A one-message call, an arrival and a turn, by the ways in which each ends.
use Rattle.std.specs.Prelude.{if◌then◌else◌}
use mathlib.Core.Path.{◌≡◌, refl, sym, ap, subst, ◌∙◌}
use mathlib.Core.Bool.{Bool, true, false, not, ◌&&◌, ◌||◌, true≢false}
use mathlib.Core.Logic.{◌≢◌, ◌⊎◌, inl, inr}
use mathlib.Core.List.{List}
use Prim.Native.Nat.{ℕ, suc, ◌≤◌, ◌<◌}
use native.Mathlib.Omega.{arith}
use lib.Dec.{eqb, leb, ltb}
use lib.ListN.{length}
use borrow.Author.Tests.{eqb-true, eqb-false, ltb-false, leb-false, ne_eqb}
use Rattle.rules.specs.declared.Venue.{Venue}
use Rattle.rules.specs.Words.{fresh_venue}
use Rattle.rules.specs.Step.{step, answered}
use Rattle.rules.specs.Sound.{sound, follows}
use Rattle.rules.specs.Calls as calls
use Rattle.rules.specs.Calls.{Call, called, ends, one}
use Rattle.rules.proofs.CallsLaws.{one_from-by}
use Rattle.rules.proofs.RefusalsLaws.{refusal-own}
use Rattle.rules.proofs.Tests.{and_in, and_l, and_r, or-false-l, or-false-r}
use Rattle.demands.specs.Soundness.{Shaped, SoundAt}
use Rattle.demands.proofs.Calls.{stays-sound, fresh-sound}
use Rattle.layer.specs.Layer.{Layer, Turned, Arrived, lane_at, with_lane, layer_sound, refusal_of, joins, arrive, next, head, head_call, ended, idle, serve, turn}

-- A one-message call --------------------------------------------------------------------------

-- a call upon the venue, so many messages having gone before, gets no 9
abbrev pub ready : Venue → (done : ℕ) → Bool
ready v n = sound v && follows (suc n) v

-- the same of a venue of the declared type
abbrev pub SoundFor : Venue → (done : ℕ) → Type 0
SoundFor v n = SoundAt (suc n) v

pub sound-for-in : (v : Venue) (n : ℕ) → Shaped v → ready v n ≡ true → SoundFor v n
sound-for-in v n s e = record { venue = record { shaped = s; is = and_l (sound v) (follows (suc n) v) e }; next = and_r (sound v) (follows (suc n) v) e }

pub sound-for-out : (v : Venue) (n : ℕ) → SoundFor v n → Shaped v × (ready v n ≡ true)
sound-for-out v n f = (f.venue.shaped, and_in (sound v) (follows (suc n) v) f.venue.is f.next)

pub fresh-sound-for : SoundFor fresh_venue 0
fresh-sound-for = fresh-sound

-- how a call ended
pub data Ending (v : Venue) (n room : ℕ) (c : Call) : Type 0 where
  unsound : ready v n ≡ false → c ≡ called room (ends 9 v) → Ending v n room c
  full : ready v n ≡ true → c ≡ called room (ends 10 v) → Ending v n room c
  did : ready v n ≡ true → c.returned.number ≢ 9 → c.returned.number ≢ 10 → c.returned.done ≡ 1 → suc n < 4294967296 →
      (SoundFor v n → SoundFor c.returned.venue (suc n)) → Ending v n room c

pub ending : (v : Venue) (n room : ℕ) (bs : List ℕ) → Ending v n room (one v n room bs)
unfolding one called ends calls.after step answered
ending v n room bs =
    one_from-by (λ o. Ending v n room (called room o)) v n room bs (λ u. unsound u refl) (λ s _. full s refl)
    (λ s d. did s (refusal-own v bs 9 (omega arith) (omega arith)) (refusal-own v bs 10 (omega arith) (omega arith)) refl d.0 (λ k. stays-sound v (suc n) d.0 k bs))

module _ (v : Venue) (n room : ℕ) (c : Call) where
  -- one that is ended by 9 or 10 does nothing, and any other does its message
  pub ended_is : Ending v n room c → ended c ≡ eqb c.returned.done 0
  unfolding ended called ends
  ended_is (unsound _ e) = rw e
  ended_is (full _ e) = rw e
  ended_is (did _ a b d _ _) = rw (ne_eqb c.returned.number 9 a, ne_eqb c.returned.number 10 b, d)

  -- it leaves the venue, and a report of zeros
  pub not_done : Ending v n room c → c.returned.done ≡ 0 → c ≡ called room (ends c.returned.number v)
  unfolding called ends
  not_done (unsound _ e) d = rw e
  not_done (full _ e) d = rw e
  not_done (did _ _ _ e _ _) d = absurd (omega arith)

  pub not-done-number : Ending v n room c → c.returned.done ≡ 0 → (c.returned.number ≡ 9) ⊎ (c.returned.number ≡ 10)
  unfolding called ends
  not-done-number (unsound _ e) d = inl (ap (λ (x : Call). x.returned.number) e)
  not-done-number (full _ e) d = inr (ap (λ (x : Call). x.returned.number) e)
  not-done-number (did _ _ _ e _ _) d = absurd (omega arith)

  -- a call that did its message
  pub record Did : Type 0 where
    pub was : ready v n ≡ true
    pub once : c.returned.done ≡ 1
    pub not9 : c.returned.number ≢ 9
    pub not10 : c.returned.number ≢ 10
    pub counted : suc n < 4294967296
    pub stays : SoundFor v n → SoundFor c.returned.venue (suc n)

  pub does : Ending v n room c → c.returned.done ≢ 0 → Did
  unfolding called ends
  does (unsound _ e) d = absurd (d (ap (λ (x : Call). x.returned.done) e))
  does (full _ e) d = absurd (d (ap (λ (x : Call). x.returned.done) e))
  does (did s a b e k f) d = record { was = s; once = e; not9 = a; not10 = b; counted = k; stays = f }

  pub nine-unready : Ending v n room c → eqb c.returned.number 9 ≡ not (ready v n)
  unfolding called ends
  nine-unready (unsound u e) = rw (u, e)
  nine-unready (full s e) = rw (s, e)
  nine-unready (did s a _ _ _ _) = rw (s, ne_eqb c.returned.number 9 a)

-- An arrival ----------------------------------------------------------------------------------

-- a message that waits: nothing refuses it
pub record Waits (l : Layer) (v : ℕ) (m : List ℕ) : Type 0 where
  pub sound : layer_sound l ≡ true
  pub venue : v < 4
  pub room : length (lane_at l v).wait < 8
  pub short : length m ≤ 32

module _ {ℓ} (Q : Arrived → Type ℓ) (l : Layer) (v : ℕ) (m : List ℕ) where
  pub arrive-by : ((x : ℕ) → x ≢ 0 → (layer_sound l ≡ true → x ≢ 9) → Q (record { number = x; layer = l })) →
      (Waits l v m → Q (record { number = 0; layer = with_lane l v (joins m (lane_at l v)) })) → Q (arrive l v m)
  unfolding arrive refusal_of
  arrive-by refused waits = go (layer_sound l) refl (ltb 3 v) refl (leb 8 (length (lane_at l v).wait) || ltb 32 (length m)) refl
    where
      go : (a : Bool) → layer_sound l ≡ a → (b : Bool) → ltb 3 v ≡ b → (c : Bool) → (leb 8 (length (lane_at l v).wait) || ltb 32 (length m)) ≡ c →
          Q (let x : ℕ = if not a then 9 else if b then 18 else if c then 17 else 0 in record { number = x; layer = if eqb x 0 then with_lane l v (joins m (lane_at l v)) else l })
      go false e b f c g = refused 9 (λ z. omega arith) (λ s _. true≢false (sym s ∙ e))
      go true e true f c g = refused 18 (λ z. omega arith) (λ s z. omega arith)
      go true e false f true g = refused 17 (λ z. omega arith) (λ s z. omega arith)
      go true e false f false g = waits (record {
        sound = e;
        venue = (let h = ltb-false 3 v f in omega arith);
        room = leb-false 8 (length (lane_at l v).wait) (or-false-l (leb 8 (length (lane_at l v).wait)) (ltb 32 (length m)) g);
        short = ltb-false 32 (length m) (or-false-r (leb 8 (length (lane_at l v).wait)) (ltb 32 (length m)) g);
      })

-- A turn --------------------------------------------------------------------------------------

module _ {ℓ} (Q : Turned → Type ℓ) (l : Layer) (room : ℕ) where
  abbrev r : Call
  r = head_call (lane_at l (next l)) room

  pub turn_by : (layer_sound l ≡ false → Q (idle l room 9)) → (layer_sound l ≡ true → next l ≡ 4 → Q (idle l room 0)) →
      (layer_sound l ≡ true → next l ≢ 4 → r.returned.done ≡ 0 → Q (idle l room r.returned.number)) →
      (layer_sound l ≡ true → next l ≢ 4 → r.returned.done ≢ 0 → Q (serve l (next l) r)) → Q (turn l room)
  unfolding turn
  turn_by nine none left serves = subst
      (λ (d : Bool). Q (if not (layer_sound l) then idle l room 9 else if eqb (next l) 4 then idle l room 0 else if d then idle l room
      r.returned.number else serve l (next l) r)) (sym is) (go (layer_sound l) refl (eqb (next l) 4) refl (eqb r.returned.done 0) refl)
    where
      is : ended r ≡ eqb r.returned.done 0
      is = unfold head_call in (ended_is _ _ room _ (ending (lane_at l (next l)).venue (lane_at l (next l)).done room (head (lane_at l (next l)))))

      go : (a : Bool) → layer_sound l ≡ a → (b : Bool) → eqb (next l) 4 ≡ b → (c : Bool) → eqb r.returned.done 0 ≡ c →
          Q (if not a then idle l room 9 else if b then idle l room 0 else if c then idle l room r.returned.number else serve l (next l) r)
      go false e b f c g = nine e
      go true e true f c g = none e (eqb-true (next l) 4 f)
      go true e false f true g = left e (eqb-false (next l) 4 f) (eqb-true r.returned.done 0 g)
      go true e false f false g = serves e (eqb-false (next l) 4 f) (eqb-false r.returned.done 0 g)
