-- The layer stays sound under every call, no call upon one that came from the calls answers 9, and what is refused changes nothing.
use mathlib.Core.Path.{◌≡◌, refl, sym, ap, ◌∙◌}
use mathlib.Core.Bool.{Bool, true, false, not, ◌&&◌, ◌||◌, true≢false}
use mathlib.Core.Logic.{◌≢◌, ◌⊎◌, inl, inr, ⊎_elim}
use mathlib.Core.List.{List, [], ◌∷◌, ◌++◌}
use Prim.Native.Nat.{ℕ, zero, suc, ◌+◌, ◌≤◌, ◌<◌}
use native.Mathlib.Omega.{arith}
use lib.Dec.{leb, ltb}
use lib.ListN.{length, get_or, set, drop, replicate, length-set, length-append}
use borrow.Author.Tests.{le-leb, lt-leb, le-ltb, lt-ltb, leb-true, eq-eqb}
use Rattle.rules.specs.Base.{all}
use Rattle.rules.specs.Words.{fresh_venue}
use Rattle.rules.specs.Calls.{one}
use Rattle.rules.proofs.Tests.{and_l, and_r}
use Rattle.demands.specs.Soundness.{Shaped}
use Rattle.demands.proofs.Most as most
use Rattle.layer.specs.Layer.{Lane, Layer, Asked, arrival, turning, fresh_lane, fresh_layer, lane_at, with_lane, gets_nine, wait_sound, lane_sound, layer_sound}
use Rattle.layer.specs.Layer.{refusal_of, joins, arrive, next, head_call, head, idle, advanced, serve, after, after_all}
use Rattle.layer.specs.Promises.{GetsNine, SoundLayer, FreshSound, LayerStaysSound, NeverNine, RoomEnough, Answered, NoneWaiting, Unchanged}
use Rattle.layer.proofs.Ways.{ready, SoundFor, sound-for-in, sound-for-out, fresh-sound-for, ending, Did, does, not-done-number, nine-unready, Waits, arrive-by, turn_by}
use Rattle.layer.proofs.Lanes.{each_set, next-none, next-some, none-next, sound-last, sound-lane, layer-sound}

-- A lane --------------------------------------------------------------------------------------

nine-is : (c : Lane) → gets_nine c ≡ not (ready c.venue c.done)
unfolding gets_nine
nine-is c = nine-unready c.venue c.done 0 _ (ending c.venue c.done 0 [])

pub gets-nine : GetsNine
gets-nine c room m = nine-is c ∙ sym (nine-unready c.venue c.done room _ (ending c.venue c.done room m))

not-not : (b : Bool) → not (not b) ≡ b
not-not true = refl
not-not false = refl

pub gets_none : (c : Lane) → not (gets_nine c) ≡ ready c.venue c.done
gets_none c = rw (nine-is c) (not-not (ready c.venue c.done))

-- a lane is sound where its wait is and its venue gets no 9
lane-is : (c : Lane) → lane_sound c ≡ (wait_sound c.wait && ready c.venue c.done)
unfolding lane_sound
lane-is c = rw (gets_none c)

pub lane_in : (c : Lane) → wait_sound c.wait ≡ true → ready c.venue c.done ≡ true → lane_sound c ≡ true
lane_in c a b = rw (lane-is c, a, b)

pub lane-wait : (c : Lane) → lane_sound c ≡ true → wait_sound c.wait ≡ true
lane-wait c s = and_l (wait_sound c.wait) (ready c.venue c.done) (sym (lane-is c) ∙ s)

pub lane-ready : (c : Lane) → lane_sound c ≡ true → ready c.venue c.done ≡ true
lane-ready c s = and_r (wait_sound c.wait) (ready c.venue c.done) (sym (lane-is c) ∙ s)

nine-not : (c : Lane) (room : ℕ) → ready c.venue c.done ≡ true → (head_call c room).returned.number ≢ 9
unfolding head_call
nine-not c room s e =
    true≢false (sym (eq-eqb (one c.venue c.done room (head c)).returned.number 9 e)
    ∙ nine-unready c.venue c.done room _ (ending c.venue c.done room (head c)) ∙ ap not s)

-- A wait --------------------------------------------------------------------------------------

abbrev short : List ℕ → Bool
short m = leb (length m) 32

all_more : (w : List (List ℕ)) (m : List ℕ) → all short w ≡ true → short m ≡ true → all short (w ++ (m ∷ [])) ≡ true
unfolding all
all_more [] m a b = rw b
all_more (x ∷ w) m a b = rw (and_l (short x) (all short w) a, all_more w m (and_r (short x) (all short w) a) b)

pub wait-more : (w : List (List ℕ)) (m : List ℕ) → wait_sound w ≡ true → length w < 8 → length m ≤ 32 → wait_sound (w ++ (m ∷ [])) ≡ true
unfolding wait_sound
wait-more w m s a b =
    rw (le-leb (length (w ++ (m ∷ []))) 8 (omega (arith, length-append w (m ∷ []))), all_more w m (and_r (leb (length w) 8) (all short w) s) (le-leb (length m) 32 b))

pub wait-less : (w : List (List ℕ)) → wait_sound w ≡ true → wait_sound (drop 1 w) ≡ true
unfolding wait_sound all
wait-less [] s = refl
wait-less (m ∷ w) s =
    let n = leb-true (suc (length w)) 8 (and_l (leb (suc (length w)) 8) (short m && all short w) s) in
    rw (le-leb (length w) 8 (omega arith), and_r (short m) (all short w) (and_r (leb (suc (length w)) 8) (short m && all short w) s))

-- The layer -----------------------------------------------------------------------------------

pub fresh-lane : lane_sound fresh_lane ≡ true
unfolding fresh_lane wait_sound all
fresh-lane = lane_in fresh_lane refl (sound-for-out fresh_venue 0 fresh-sound-for).1

-- each lane of a sound layer
pub each_lane : (l : Layer) → layer_sound l ≡ true → (v : ℕ) → lane_sound (lane_at l v) ≡ true
each_lane l s v = sound-lane l fresh-lane s v

same_at : {A : Type 0} (d : A) (k v : ℕ) → get_or (replicate k d) v d ≡ d
same_at d zero v = refl
same_at d (suc k) zero = refl
same_at d (suc k) (suc v) = same_at d k v

pub fresh_at : (v : ℕ) → lane_at fresh_layer v ≡ fresh_lane
unfolding lane_at fresh_layer
fresh_at v = same_at fresh_lane 4 v

pub fresh-layer : FreshSound
unfolding fresh_layer fresh_lane
fresh-layer = record {
  four = refl;
  shaped = λ v. rw (fresh_at v) (sound-for-out fresh_venue 0 fresh-sound-for).0;
  is = layer-sound fresh_layer (omega arith) (λ v. rw (fresh_at v) fresh-lane);
}

-- Kept ----------------------------------------------------------------------------------------

-- a lane anew that is sound and shaped, in a sound layer
sound-set : (l : Layer) (v last : ℕ) (c : Lane) → SoundLayer l → v < 4 → last < 4 → lane_sound c ≡ true → Shaped c.venue →
    SoundLayer (record { lanes = set l.lanes v c; last = last })
sound-set l v last c s h k a b =
    let n = s.four in
    record {
      four = length-set l.lanes v c ∙ s.four;
      shaped = each_set (λ x. Shaped x.venue) l v last c (omega arith) b s.shaped;
      is = layer-sound _ k (each_set (λ x. lane_sound x ≡ true) l v last c (omega arith) a (each_lane l s.is));
    }

-- the venue of a lane
pub venue-sound : (l : Layer) → SoundLayer l → (v : ℕ) → SoundFor (lane_at l v).venue (lane_at l v).done
venue-sound l s v = sound-for-in (lane_at l v).venue (lane_at l v).done (s.shaped v) (lane-ready (lane_at l v) (each_lane l s.is v))

pub layer-stays-sound : LayerStaysSound
unfolding after idle serve with_lane
layer-stays-sound l s (arrival v m) =
    arrive-by (λ a. SoundLayer a.layer) l v m (λ _ _ _. s)
    (λ w. sound-set l v l.last (joins m (lane_at l v)) s w.venue (sound-last l s.is) (joined w) (unfold joins in (s.shaped v)))
  where
    joined : Waits l v m → lane_sound (joins m (lane_at l v)) ≡ true
    joined w = unfold joins in (
        lane_in _ (wait-more (lane_at l v).wait m (lane-wait (lane_at l v) (each_lane l s.is v)) w.room w.short) (lane-ready (lane_at l v) (each_lane l s.is v))
        )
layer-stays-sound l s (turning room) =
    turn_by (λ t. SoundLayer t.layer) l room (λ _. s) (λ _ _. s) (λ _ _ _. s)
    (λ _ n d. sound-set l (next l) (next l) (advanced c (head_call c room)) s (next-some l n).0 (next-some l n).0 (went d).0 (went d).1)
  where
    c : Lane
    c = lane_at l (next l)

    went : (head_call c room).returned.done ≢ 0 → (lane_sound (advanced c (head_call c room)) ≡ true) × Shaped (advanced c (head_call c room)).venue
    went d = unfold advanced head_call in (
        let k = does c.venue c.done room _ (ending c.venue c.done room (head c)) d in
        let r = one c.venue c.done room (head c) in
        let w = sound-for-out r.returned.venue (suc c.done) (k.stays (venue-sound l s (next l))) in
        let o = k.once in
        let n : suc c.done ≡ c.done + r.returned.done = omega arith in
        (lane_in _ (wait-less c.wait (lane-wait c (each_lane l s.is (next l)))) (ap (ready r.returned.venue) (sym n) ∙ w.1), w.0)
        )

pub all-kept : (l : Layer) (list : List Asked) → SoundLayer l → SoundLayer (after_all l list)
unfolding after_all
all-kept l [] s = s
all-kept l (a ∷ list) s = all-kept (after l a) list (layer-stays-sound l s a)

-- Never 9 -------------------------------------------------------------------------------------

pub never-nine : NeverNine
unfolding idle serve head_call
never-nine = record {
  arrives = λ past v m. arrive-by (λ a. a.number ≢ 9) (after_all fresh_layer past) v m (λ _ _ n. n (now past)) (λ _ e. omega arith);
  turns = λ past room. turn_by (λ t. t.number ≢ 9) (after_all fresh_layer past) room (λ u _. true≢false (sym (now past) ∙ u)) (λ _ _ e. omega arith)
      (λ _ _ _. not-nine past room) (λ _ _ _. not-nine past room);
}
  where
    now : (past : List Asked) → layer_sound (after_all fresh_layer past) ≡ true
    now past = (all-kept fresh_layer past fresh-layer).is

    not-nine : (past : List Asked) (room : ℕ) → (head_call (lane_at (after_all fresh_layer past) (next (after_all fresh_layer past))) room).returned.number ≢ 9
    not-nine past room = nine-not _ _ (lane-ready _ (each_lane _ (now past) (next (after_all fresh_layer past))))

-- Room enough ---------------------------------------------------------------------------------

pub room-enough : RoomEnough
unfolding idle serve head_call
room-enough l s few room h =
    turn_by (λ t. (t.number ≢ 9) × (t.number ≢ 10)) l room (λ u. absurd (true≢false (sym s.is ∙ u))) (λ _ _. (λ e. omega arith, λ e. omega arith))
    (λ _ _ d. absurd (let z = goes in omega arith))
    (λ _ _ d. let k = does c.venue c.done room _ (ending c.venue c.done room (head c)) d in (k.not9, k.not10))
  where
    c : Lane
    c = lane_at l (next l)

    goes : (one c.venue c.done room (head c)).returned.done ≡ 1
    goes = most.room-enough c.venue c.done (venue-sound l s (next l)) room (head c) (few (next l)) h

-- The answers of an arrival ---------------------------------------------------------------------

or_right : (a b : Bool) → b ≡ true → (a || b) ≡ true
or_right true b e = refl
or_right false b e = e

pub answered : Answered
unfolding arrive refusal_of
answered l v m = record {
  nine = λ u. rw u;
  eighteen = λ s h. rw (s, lt-ltb 3 v h);
  seventeen = λ s h. ⊎_elim (λ f. rw (s, le-ltb 3 v (omega arith), le-leb 8 (length (lane_at l v).wait) f))
      (λ g. rw (s, le-ltb 3 v (omega arith), or_right (leb 8 (length (lane_at l v).wait)) (ltb 32 (length m)) (lt-ltb 32 (length m) g)));
  taken = λ s h f g. rw (s, le-ltb 3 v (omega arith), lt-leb 8 (length (lane_at l v).wait) f, le-ltb 32 (length m) g);
}

-- Unchanged -----------------------------------------------------------------------------------

pub unchanged : Unchanged
unfolding idle serve head_call
unchanged = record {
  arrives = λ l v m. arrive-by (λ a. a.number ≢ 0 → a.layer ≡ l) l v m (λ _ _ _ _. refl) (λ _ n. absurd (n refl));
  turns = λ l room. turn_by (λ t. t.served ≡ 4 → t.layer ≡ l) l room (λ _ _. refl) (λ _ _ _. refl) (λ _ _ _ _. refl) (λ _ n _ e. absurd (n e));
  ended9 = λ l room. turn_by (λ t. t.number ≡ 9 → t.served ≡ 4) l room (λ _ _. refl) (λ _ _ _. refl) (λ _ _ _ _. refl) (λ _ _ d e. absurd ((own l room d).not9 e));
  ended10 = λ l room. turn_by (λ t. t.number ≡ 10 → t.served ≡ 4) l room (λ _ _. refl) (λ _ _ _. refl) (λ _ _ _ _. refl) (λ _ _ d e. absurd ((own l room d).not10 e));
  none = λ l room s w. turn_by (λ t. (t.number ≡ 0) × (t.served ≡ 4)) l room (λ u. absurd (true≢false (sym s ∙ u))) (λ _ _. (refl, refl))
      (λ _ n _. absurd (n (none-next l w))) (λ _ n _. absurd (n (none-next l w)));
  four = λ l room. turn_by (λ t. t.served ≡ 4 → (t.number ≡ 9) ⊎ ((t.number ≡ 10) ⊎ ((t.number ≡ 0) × NoneWaiting l))) l room
      (λ _ _. inl refl) (λ _ e _. inr (inr (refl, next-none l e))) (λ _ _ d _. ⊎_elim inl (λ z. inr (inl z)) (stopped l room d)) (λ _ n _ e. absurd (n e));
}
  where
    own : (l : Layer) (room : ℕ) → (head_call (lane_at l (next l)) room).returned.done ≢ 0 → let c : Lane = lane_at l (next l) in Did c.venue c.done room (head_call c room)
    own l room d = let c : Lane = lane_at l (next l) in does c.venue c.done room _ (ending c.venue c.done room (head c)) d

    stopped : (l : Layer) (room : ℕ) → (head_call (lane_at l (next l)) room).returned.done ≡ 0 →
        ((head_call (lane_at l (next l)) room).returned.number ≡ 9) ⊎ ((head_call (lane_at l (next l)) room).returned.number ≡ 10)
    stopped l room d = let c : Lane = lane_at l (next l) in not-done-number c.venue c.done room _ (ending c.venue c.done room (head c)) d
