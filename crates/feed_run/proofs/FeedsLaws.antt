-- The laws of the handing out of two lines: one turn of it, its loop, and its end.
use mathlib.Core.Path.{◌≡◌, refl, sym, ap, ap₂, subst, ◌∙◌}
use mathlib.Core.Bool.{Bool, true, false, true≢false, ◌&&◌}
use mathlib.Core.List.{List, ◌++◌}
use Prim.Native.Nat.{ℕ, zero, suc, ◌+◌, ◌-◌, ◌≤◌, ◌<◌, zero-le}
use native.Mathlib.Omega.{arith}
use lib.Dec.{leb}
use denote.Bor.{Bor}
use lib.ListN.{length, take, drop, replicate, length-drop}
use lib.Seq.{drop-drop}
use borrow.Author.Tests.{leb-true, leb-false}
use borrow.Rule.Slice.PartMut.{put_mid}
use Rattle.rules.specs.declared.Venue.{Venue}
use Rattle.rules.specs.Words.{fresh_venue}
use Rattle.rules.specs.Records.{Report, encode_all}
use Rattle.rules.specs.Step.{StepOutcome, step}
use Rattle.rules.specs.Calls.{Outcome, called, ends, after}
use Rattle.rules.proofs.CallsLaws.{no_room, not-exceeds}
use Rattle.rules.proofs.Tests.{and_l, and_r, and-false}
use Rattle.demands.specs.Soundness.{SoundAt}
use Rattle.demands.proofs.Calls.{stays-sound, fresh-sound}
use Rattle.places.specs.Layout.{size, venue_of, Dense, Loaded}
use Rattle.answers.specs.declared.Stepped.{Stepped}
use Rattle.messages.specs.Tries.{Tries}
use Rattle.feed.specs.Feed.{Part, parts_of, faultless, next, message, stop, feed}
use Rattle.feed.specs.declared.Line.{Line}
use Rattle.feed.specs.Requirements.{LineReady, LinesReady, LinesLeft}
use Rattle.feed.specs.declared.Stop.{Stop}
use Rattle.feed.specs.declared.Stop.TheVariants.{Differ, Lost}
use Rattle.feed.specs.Cursors.{left_of, ready, stop_of, stop_number, part_of, up_next, advance_of, line_after}
use Rattle.feed.specs.Turns.{hands, fed_from}
use Rattle.feed.proofs.FeedRuns.{hands-full, hands_more, fed-on, fed-stop, feed-is, feed-not}
use Rattle.feed.proofs.Ahead.{Ahead, ahead-start, ahead-moved, ahead-ready, advance-within, some-move, next_up, next-end, next-whole, up-message, up-stop}
use Rattle.feed_run.specs.declared.FeedProgress.{FeedProgress}
use Rattle.engine.specs.Runs.{goes_on, call_of}
use Rattle.feed_run.specs.Feeds.{stops_at, Feeds}
use Rattle.engine.proofs.Proceeding.{goes-on, goes-not, turn-ends, too_long, venue-kept, front_kept, length-is, venue-is, turn-does, Sofar}
use Rattle.engine.proofs.Proceeding.{sofar-start, sofar-as, sofar-turn, Ended, sofar-ends, ended-call}

-- A line that is faulty -----------------------------------------------------------------------

module _ (room : ℕ) (main spare : List ℕ) (v : Venue) (fresh : v ≡ fresh_venue) where
  not-fed : (faultless main && faultless spare) ≡ false → called room (ends 21 v) ≡ feed room main spare
  not-fed f = ap (λ (w : Venue). called room (ends 21 w)) fresh ∙ feed-not room main spare f

  pub main-faulty : faultless main ≡ false → called room (ends 21 v) ≡ feed room main spare
  main-faulty e = not-fed (rw e)

  pub spare-faulty : faultless spare ≡ false → called room (ends 21 v) ≡ feed room main spare
  spare-faulty e = not-fed (ap (λ (t : Bool). faultless main && t) e ∙ and-false (faultless main))

-- What the parts of a turn ask ----------------------------------------------------------------

pub asked-one : (n d : ℕ) (l : Line) → n ≡ suc d → ready d (left_of l) ≡ true → LineReady l n
asked-one n d l e r = let z : d ≡ n - 1 = omega arith in record { numbered = omega arith; stands = subst (λ (k : ℕ). ready k (left_of l) ≡ true) z r }

pub asked : (n d k : ℕ) (m s : Line) → n ≡ suc d → LinesLeft m s d → k ≡ stop_of (suc d) (left_of m) (left_of s) → k ≡ 0 → LinesReady m s n
asked n d k m s e w f z =
    let x = asked-one n d m e w.main in
    let y = asked-one n d s e w.spare in
    record { numbered = x.numbered; main = x.stands; spare = y.stands; goes = ap (λ (h : ℕ). stop_of h (left_of m) (left_of s)) e ∙ sym f ∙ z }

-- what stops it has a number
pub stop-some : (s : Stop) → stop_number s ≡ 0 → ⊥
stop-some Differ e = absurd (omega arith)
stop-some Lost e = absurd (omega arith)

-- A turn --------------------------------------------------------------------------------------

module _ (t : FeedProgress) where
  abbrev main_left : List ℕ
  main_left = left_of t.main

  abbrev spare_left : List ℕ
  spare_left = left_of t.spare

  abbrev number : ℕ
  number = suc t.done

  -- 19 or 20 comes up
  pub turn_stopped : (b l : List ℕ) (k : ℕ) → k ≡ stop_of number main_left spare_left → (k ≡ 0 → ⊥) → t.written ≤ length l → Dense b → SoundAt number (venue_of b) →
      Feeds t b l (stops_at t k) b l
  turn_stopped b l k e z w d s =
      record {
        turned = λ fuel ms ss up. turn-ends _ _ k t.done t.written l b l z w refl
            (fed-stop fuel (venue_of b) t.done (length l - t.written) ms ss k (up ∙ up-stop number main_left spare_left k e z));
        moved = λ h. absurd (z h);
        dense = d;
        sound = s;
      }

  -- its message was tried: r is what was returned, and ys what is left of the report from t's position on
  module _ (b₀ b l ys part : List ℕ) (n : ℕ) (r : Stepped) (free : stop_of number main_left spare_left ≡ 0) (n-is : n ≡ number) (few : n < 4294967296)
      (part-is : part ≡ part_of n main_left spare_left) (w : t.written ≤ length l) (s : SoundAt number (venue_of b₀))
      (tries : Tries (step (venue_of b₀) n part) b₀ (take (length l - t.written) (drop t.written l)) r b ys) where
    abbrev v : Venue
    v = venue_of b₀

    abbrev done : StepOutcome
    done = step v number part

    abbrev rs : List Report
    rs = done.effect.reports

    abbrev room : ℕ
    room = length l - t.written

    abbrev back : List ℕ
    back = put_mid t.written room l ys

    tried : Tries done b₀ (take room (drop t.written l)) r b ys
    tried = subst (λ (k : ℕ). Tries (step v k part) b₀ (take room (drop t.written l)) r b ys) n-is tries

    handed_out : (fuel : ℕ) (ms ss : List Part) → next number ms ss ≡ up_next number main_left spare_left →
        fed_from (suc fuel) v t.done room ms ss ≡ hands v t.done room part (λ w left. fed_from fuel w number left ms ss)
    handed_out fuel ms ss up =
        fed-on fuel v t.done room ms ss part
        (up ∙ up-message number main_left spare_left free ∙ ap message (sym (part-is ∙ ap (λ (k : ℕ). part_of k main_left spare_left) n-is)))

    -- the records do not fit
    pub turn-full : length l - t.written < r.written →
        Feeds t b₀ l (stops_at t 10) b back
    turn-full h =
        let same = venue-kept done t.written b₀ b l ys r w tried h in
        record {
          turned = λ fuel ms ss up. turn-ends _ _ 10 t.done t.written l b back (λ z. omega arith) w (front_kept done t.written b₀ b l ys r w tried h)
              (handed_out fuel ms ss up
              ∙ hands-full v t.done room part (λ w left. fed_from fuel w number left ms ss)
              (no_room number room rs (omega arith) (too_long done t.written b₀ b l ys r w tried h))
              ∙ ap (ends 10) (sym same));
          moved = λ z. absurd (omega arith);
          dense = tried.dense;
          sound = rw same s;
        }

    -- they do
    pub turn-handed : r.written ≤ length l - t.written → (x y : Line) → x ≡ line_after n t.main → y ≡ line_after n t.spare →
        Feeds t b₀ l (record { number = 0; done = n; main = x; spare = y; written = t.written + r.written }) b back
    turn-handed h x y x-is y-is =
        let q = length-is done t.written b₀ b l ys r w tried h in
        let same = venue-is done t.written b₀ b l ys r w tried h in
        let far = some-move number main_left spare_left free in
        let xx : x ≡ line_after number t.main = x-is ∙ ap (λ (k : ℕ). line_after k t.main) n-is in
        let yy : y ≡ line_after number t.spare = y-is ∙ ap (λ (k : ℕ). line_after k t.spare) n-is in
        let x-at : x.at ≡ t.main.at + advance_of number main_left = ap (λ (l : Line). l.at) xx in
        let y-at : y.at ≡ t.spare.at + advance_of number spare_left = ap (λ (l : Line). l.at) yy in
        let left : room - length (encode_all rs) ≡ length l - (t.written + r.written) = omega arith in
        record {
          turned = λ fuel ms ss up. turn-does done t.written b₀ b l ys r w tried h _ _ 0 t.done n n-is
              (handed_out fuel ms ss up
              ∙ hands_more v t.done room part (λ w left. fed_from fuel w number left ms ss) (not-exceeds number room rs (omega arith) (omega arith))
              ∙ ap (after done.effect)
              (ap₂ (λ (z : Venue) (k : ℕ). fed_from fuel z k (room - length (encode_all rs)) ms ss) (sym same) (sym n-is)
              ∙ ap (λ (k : ℕ). fed_from fuel (venue_of b) n k ms ss) left
              ∙ sym (goes-on 0 (venue_of b) _ refl)));
          moved = λ _. (n-is, xx, yy, omega arith);
          dense = tried.dense;
          sound = rw (n-is, same) (stays-sound v number (omega arith) s part);
        }

-- The loop ------------------------------------------------------------------------------------

-- the whole of it, and what is left at a turn
abbrev whole_feed : (main spare l₀ : List ℕ) → Outcome
whole_feed main spare l₀ = fed_from (length main + length spare) fresh_venue 0 (length l₀) (parts_of main) (parts_of spare)

abbrev left_feed : (main spare l₀ b : List ℕ) (t : FeedProgress) → Outcome
left_feed main spare l₀ b t = fed_from (length main + length spare - t.done) (venue_of b) t.done (length l₀ - t.written) (parts_of main) (parts_of spare)

pub record Feeding (main spare l₀ b l : List ℕ) (t : FeedProgress) : Type 0 where
  pub sofar : Sofar (whole_feed main spare l₀) l₀ b l t.number t.done t.written (left_feed main spare l₀ b t)
  pub going : t.number ≡ 0
  pub main-is : t.main.bytes.now ≡ main
  pub spare-is : t.spare.bytes.now ≡ spare
  pub on-main : Ahead t.done (left_of t.main) (parts_of main)
  pub on-spare : Ahead t.done (left_of t.spare) (parts_of spare)
  pub main-in : t.main.at ≤ length t.main.bytes.now
  pub spare-in : t.spare.at ≤ length t.spare.bytes.now
  pub count : t.done ≤ t.main.at + t.spare.at
  pub dense : Dense b
  pub sound : SoundAt (suc t.done) (venue_of b)

abbrev pub FeedEnded : (main spare l₀ b l : List ℕ) (t : FeedProgress) → Type 0
FeedEnded main spare l₀ b l t = Ended (whole_feed main spare l₀) l₀ b l t.number t.done t.written

fed-none : (fuel : ℕ) (v : Venue) (n free : ℕ) (m s : List Part) → next (suc n) m s ≡ stop 0 → fed_from fuel v n free m s ≡ ends 0 v
fed-none zero v n free m s e = unfold fed_from in refl
fed-none (suc fuel) v n free m s e = fed-stop fuel v n free m s 0 e

-- it begins with the numbers of a fresh venue
pub feeding-start : (m s : Bor (List ℕ)) (b l : List ℕ) → length b ≡ size → Loaded fresh_venue b → faultless m.now ≡ true → faultless s.now ≡ true →
    Feeding m.now s.now l b l (record { number = 0; done = 0; main = record { bytes = m; at = 0 }; spare = record { bytes = s; at = 0 }; written = 0 })
feeding-start m s b l n f a c =
    let main = m.now in
    let spare = s.now in
    let p : length main + length spare ≡ length main + length spare - 0 = omega arith in
    let q : length l ≡ length l - 0 = omega arith in
    record {
      sofar = sofar-as (whole_feed main spare l) l b l 0 0 0 (whole_feed main spare l) _
          (ap (goes_on 0 (venue_of b))
          (ap₂ (λ (x y : ℕ). fed_from x fresh_venue 0 y (parts_of main) (parts_of spare)) p q
          ∙ ap (λ (v : Venue). fed_from (length main + length spare - 0) v 0 (length l - 0) (parts_of main) (parts_of spare)) (sym f.venue)))
          (sofar-start (whole_feed main spare l) l b n);
      going = refl;
      main-is = refl;
      spare-is = refl;
      on-main = ahead-start main a;
      on-spare = ahead-start spare c;
      main-in = zero-le;
      spare-in = zero-le;
      count = zero-le;
      dense = f.dense;
      sound = subst (SoundAt 1) (sym f.venue) fresh-sound;
    }

-- the lines are not both at their ends
pub not-ends : (a b at other : ℕ) → at ≤ a → other ≤ b → (leb a at && leb b other) ≡ false → at + other < a + b
not-ends a b at other h k e = go (leb a at) refl (leb b other) refl e
  where
    go : (x : Bool) → leb a at ≡ x → (y : Bool) → leb b other ≡ y → (x && y) ≡ false → at + other < a + b
    go true f true g e = absurd (true≢false e)
    go true f false g e = let z = leb-false b other g in omega arith
    go false f y g e = let z = leb-false a at f in omega arith

-- a line once a number's message is handed out
moved_to : (n n' : ℕ) (l l' : Line) (ps : List Part) → n' ≡ suc n → l' ≡ line_after (suc n) l → Ahead n (left_of l) ps → Ahead n' (left_of l') ps
moved_to n n' l l' ps d e a =
    subst (λ (k : ℕ). Ahead k (left_of l') ps) (sym d)
    (subst (λ (xs : List ℕ). Ahead (suc n) xs ps) (drop-drop (advance_of (suc n) (left_of l)) l.at l.bytes.now ∙ ap left_of (sym e)) (ahead-moved n (left_of l) ps a))

module _ (main spare l₀ b l : List ℕ) (t : FeedProgress) (g : Feeding main spare l₀ b l t) where
  pub feeding-end : (leb (length t.main.bytes.now) t.main.at && leb (length t.spare.bytes.now) t.spare.at) ≡ true → FeedEnded main spare l₀ b l t
  feeding-end e =
      let x = leb-true (length t.main.bytes.now) t.main.at (and_l _ _ e) in
      let y = leb-true (length t.spare.bytes.now) t.spare.at (and_r (leb (length t.main.bytes.now) t.main.at) _ e) in
      let p = length-drop t.main.at t.main.bytes.now in
      let q = length-drop t.spare.at t.spare.bytes.now in
      sofar-ends (whole_feed main spare l₀) l₀ b l t.number t.done t.written (left_feed main spare l₀ b t)
      (goes-on t.number (venue_of b) (left_feed main spare l₀ b t) g.going
      ∙ fed-none (length main + length spare - t.done) (venue_of b) t.done (length l₀ - t.written) (parts_of main) (parts_of spare)
      (next-end t.done (left_of t.main) (left_of t.spare) (parts_of main) (parts_of spare) g.on-main g.on-spare (omega arith) (omega arith))
      ∙ ap (λ (k : ℕ). ends k (venue_of b)) (sym g.going))
      g.sofar

  module _ (ahead : t.main.at + t.spare.at < length t.main.bytes.now + length t.spare.bytes.now) (r : FeedProgress) (b' l' : List ℕ) (slice : length b' ≡ length b) (same : length l' ≡ length l)
      (turn : Feeds t b l r b' l') where
    some_left : 0 < length (left_of t.main) + length (left_of t.spare)
    some_left =
        let p = length-drop t.main.at t.main.bytes.now in
        let q = length-drop t.spare.at t.spare.bytes.now in
        let x = g.main-in in
        let y = g.spare-in in
        omega arith

    -- one turn more, with the fuel that is left
    turned : (fuel : ℕ) → length main + length spare - t.done ≡ suc fuel →
        Sofar (whole_feed main spare l₀) l₀ b' l' r.number r.done r.written (fed_from fuel (venue_of b') r.done (length l - r.written) (parts_of main) (parts_of spare))
    turned fuel f =
        sofar-turn (whole_feed main spare l₀) l₀ b l t.number t.done t.written _
        (sofar-as (whole_feed main spare l₀) l₀ b l t.number t.done t.written (left_feed main spare l₀ b t) _
        (ap (goes_on t.number (venue_of b))
        (ap₂ (λ (x y : ℕ). fed_from x (venue_of b) t.done (y - t.written) (parts_of main) (parts_of spare)) f (sym g.sofar.len)))
        g.sofar)
        g.going r.number r.done r.written b' l' _ slice same
        (turn.turned fuel (parts_of main) (parts_of spare)
        (next_up t.done (left_of t.main) (left_of t.spare) (parts_of main) (parts_of spare) g.on-main g.on-spare some_left))

    fuel-left : length main + length spare - t.done ≡ suc (length main + length spare - suc t.done)
    fuel-left =
        let c = g.count in
        let m = ap length g.main-is in
        let s = ap length g.spare-is in
        omega arith

    pub feeding-again : r.number ≡ 0 → Feeding main spare l₀ b' l' r
    feeding-again e =
        let m = turn.moved e in
        let d = m.0 in
        let x : r.main.at ≡ t.main.at + advance_of (suc t.done) (left_of t.main) = ap (λ (l : Line). l.at) m.1 in
        let y : r.spare.at ≡ t.spare.at + advance_of (suc t.done) (left_of t.spare) = ap (λ (l : Line). l.at) m.2 in
        let m-same : r.main.bytes.now ≡ t.main.bytes.now = ap (λ (l : Line). l.bytes.now) m.1 in
        let s-same : r.spare.bytes.now ≡ t.spare.bytes.now = ap (λ (l : Line). l.bytes.now) m.2 in
        let m-long = ap length m-same in
        let s-long = ap length s-same in
        let far = m.3 in
        let mi = g.main-in in
        let si = g.spare-in in
        let p = length-drop t.main.at t.main.bytes.now in
        let q = length-drop t.spare.at t.spare.bytes.now in
        let pm = advance-within t.done (left_of t.main) (ahead-ready t.done _ _ g.on-main) in
        let ps = advance-within t.done (left_of t.spare) (ahead-ready t.done _ _ g.on-spare) in
        let c = g.count in
        record {
          sofar = sofar-as (whole_feed main spare l₀) l₀ b' l' r.number r.done r.written _ (left_feed main spare l₀ b' r)
              (ap (goes_on r.number (venue_of b'))
              (ap₂ (λ (i j : ℕ). fed_from (length main + length spare - i) (venue_of b') r.done (j - r.written) (parts_of main) (parts_of spare)) (sym d) g.sofar.len))
              (turned (length main + length spare - suc t.done) fuel-left);
          going = e;
          main-is = m-same ∙ g.main-is;
          spare-is = s-same ∙ g.spare-is;
          on-main = moved_to t.done r.done t.main r.main (parts_of main) d m.1 g.on-main;
          on-spare = moved_to t.done r.done t.spare r.spare (parts_of spare) d m.2 g.on-spare;
          main-in = omega arith;
          spare-in = omega arith;
          count = omega arith;
          dense = turn.dense;
          sound = turn.sound;
        }

    pub feeding-stop : (r.number ≡ 0 → ⊥) → FeedEnded main spare l₀ b' l' r
    feeding-stop e =
        sofar-ends (whole_feed main spare l₀) l₀ b' l' r.number r.done r.written _ (goes-not r.number (venue_of b') _ e)
        (turned (length main + length spare - suc t.done) fuel-left)

-- the rest of the report zeroed, and the venue read
pub fed : (main spare l₀ b l z : List ℕ) (t : FeedProgress) (v : Venue) → faultless main ≡ true → faultless spare ≡ true → FeedEnded main spare l₀ b l t →
    z ≡ take t.written l ++ replicate (length l - t.written) 0 → v ≡ venue_of b →
    call_of (record { number = t.number; done = t.done; written = t.written; venue = v }) z ≡ feed (length l₀) main spare
fed main spare l₀ b l z t v fm fs d e u =
    ended-call (whole_feed main spare l₀) l₀ b l t.number t.done t.written z v d e u
    ∙ feed-is (parts_of main) (parts_of spare) (next-whole main spare fm fs) (length l₀) main spare refl refl fm fs
