-- Each venue's records are those of a venue served alone.
use Rattle.std.specs.Prelude.{if◌then◌else◌}
use mathlib.Core.Path.{◌≡◌, refl, sym, ap, ap₂, subst, ◌∙◌}
use mathlib.Core.Logic.{◌≢◌}
use mathlib.Core.List.{List, [], ◌∷◌, ◌++◌, append_assoc, append-nil}
use Prim.Native.Nat.{ℕ, ◌+◌, ◌<◌}
use lib.Dec.{eqb}
use lib.ListN.{length}
use borrow.Author.Tests.{eq-eqb, ne_eqb}
use Rattle.rules.specs.declared.Venue.{Venue}
use Rattle.rules.specs.Records.{Report, records}
use Rattle.rules.specs.Calls.{Call, one}
use Rattle.demands.specs.Demand.{Holds, Later, Seen, by_message, call_upon, calls, extend, given_to, opening, parts, start}
use Rattle.demands.specs.Truth.{Truthful}
use Rattle.demands.proofs.Calls.{demand3}
use Rattle.demands.proofs.Truth.{truth}
use Rattle.layer.specs.Layer.{Lane, Layer, Asked, arrival, turning, fresh_lane, lane_at, head, head_call, advanced, turn, arrive, after, after_all}
use Rattle.layer.specs.Promises.{takes, taken_by, messages_of, tells, told_by, seen_of, LeftBy, Apart, EachHolds, FreshLeft}
use Rattle.layer.proofs.Ways.{ending, does}
use Rattle.layer.proofs.PromisesLaws.{fresh_at}
use Rattle.layer.proofs.Order.{LaneAfter, took, left, turn-lane, Arrival, joined, apart, arrival-lane, still-four, messages-append}

-- from s on, by calls given gs, to a lane: these messages and records more
record Onward (s z : Seen) (c : Lane) (ms : List (List ℕ)) (rs : List Report) : Type 0 where
  of : LeftBy z c
  messages : z.messages ≡ s.messages ++ ms
  reports : z.reports ≡ s.reports ++ rs

seen-is : (a b : Seen) → a.venue ≡ b.venue → a.done ≡ b.done → a.messages ≡ b.messages → a.reports ≡ b.reports → a ≡ b
seen-is a b p q r t = rw (p, q, r, t)

calls-append : (s : Seen) (a b : List Later) → calls s (a ++ b) ≡ calls (calls s a) b
unfolding calls
calls-append s [] b = refl
calls-append s (c ∷ a) b = calls-append (extend s (given_to c).bytes (call_upon c s.venue s.done)) a b

nothing-more : (s : Seen) (c : Lane) → LeftBy s c → Onward s s c [] []
nothing-more s c o = record { of = o; messages = sym (append-nil s.messages); reports = sym (append-nil s.reports) }

-- one call
one_apart : (l : Layer) (a : Asked) (v : ℕ) (s : Seen) → length l.lanes ≡ 4 → v < 4 → LeftBy s (lane_at l v) →
    Onward s (calls s (takes v l a)) (lane_at (after l a) v) (messages_of (takes v l a)) (tells v l a)
unfolding takes tells messages_of after calls call_upon given_to
one_apart l (arrival w m) v s four h o = go (arrival-lane l w m v four h)
  where
    go : Arrival v l w m (arrive l w m) → Onward s s (lane_at (arrive l w m).layer v) [] []
    go (joined e f) = unfold Rattle.layer.specs.Layer.joins in (rw f (nothing-more s _ (record { venue = o.venue; done = o.done })))
    go (apart e f) = rw f (nothing-more s (lane_at l v) o)
one_apart l (turning room) v s four h o = go (turn-lane l room v four h)
  where
    c : Lane
    c = lane_at l v

    r : Call
    r = one s.venue s.done room (head c)

    same : head_call c room ≡ r
    same = unfold head_call in (ap₂ (λ (y : Venue) (k : ℕ). one y k room (head c)) o.venue o.done)

    once : r.returned.done ≢ 0 → parts r.returned.done (head c) ≡ head c ∷ []
    once n = unfold parts in (rw (does s.venue s.done room r (ending s.venue s.done room (head c)) n).once)

    go : LaneAfter v l room (turn l room) →
        let g : List Later = if eqb (turn l room).served v then by_message (record { room = room; bytes = head c }) ∷ [] else [] in
        Onward s (calls s g) (lane_at (turn l room).layer v) (messages_of g) (if eqb (turn l room).served v then records (turn l room).report else [])
    go (took e f p d w) = unfold advanced extend in (
        rw (eq-eqb (turn l room).served v e, f, p, same)
        (record {
          of = record { venue = refl; done = ap (λ (k : ℕ). k + r.returned.done) o.done };
          messages = ap (λ (z : List (List ℕ)). s.messages ++ z) (once (rw same at d));
          reports = refl;
        }))
    go (left e f) = rw (ne_eqb (turn l room).served v e, f) (nothing-more s c o)

all_apart : (l : Layer) (list : List Asked) (v : ℕ) (s : Seen) → length l.lanes ≡ 4 → v < 4 → LeftBy s (lane_at l v) →
    Onward s (calls s (taken_by v l list)) (lane_at (after_all l list) v) (messages_of (taken_by v l list)) (told_by v l list)
unfolding taken_by told_by messages_of after_all
all_apart l [] v s four h o = unfold calls in (nothing-more s (lane_at l v) o)
all_apart l (a ∷ list) v s four h o =
    let x = one_apart l a v s four h o in
    let z : Seen = calls s (takes v l a) in
    let y = all_apart (after l a) list v z (still-four l a four) h x.of in
    rw (calls-append s (takes v l a) (taken_by v (after l a) list), messages-append (takes v l a) (taken_by v (after l a) list))
    (record {
      of = y.of;
      messages = y.messages ∙ ap (λ (q : List (List ℕ)). q ++ messages_of (taken_by v (after l a) list)) x.messages ∙ append_assoc s.messages _ _;
      reports = y.reports ∙ ap (λ (q : List Report). q ++ told_by v (after l a) list) x.reports ∙ append_assoc s.reports _ _;
    })

pub each-apart : Apart
unfolding seen_of
each-apart s l list v four h o =
    let x = all_apart l list v s four h o in
    seen-is _ _ x.of.venue x.of.done (sym x.messages) (sym x.reports)

pub each_holds : EachHolds
each_holds o cs l list v four h was =
    let s = calls (opening o) cs in
    let is = calls-append (opening o) cs (taken_by v l list) ∙ sym (each-apart s l list v four h was) in
    (subst Holds is (demand3 o (cs ++ taken_by v l list)), subst Truthful is (truth o (cs ++ taken_by v l list)))

pub fresh-left : FreshLeft
unfolding calls opening start
fresh-left v = rw (fresh_at v) (unfold fresh_lane in (record { venue = refl; done = refl }))
