-- The longer list of calls, by computation: at noon and in the evening once each, and what the statement says is read off that. That the venue at noon is sound is
-- what demands proves of every one that calls return.
use mathlib.Core.Bool.{Bool, ◌&&◌, true}
use mathlib.Core.Path.{◌≡◌, ap, refl, subst}
use mathlib.Core.List.{List, Memᴰ, [], ◌∷◌}
use Prim.Native.Nat.{◌<◌, suc, ℕ}
use native.Mathlib.Omega.{arith}
use lib.Dec.{eqb, ltb}
use lib.IntN.{pos}
use lib.ListN.{get_or, length}
use borrow.Author.Tests.{eqb-true, ltb-true}
use Rattle.rules.specs.declared.Cause.TheVariants.{Executed}
use Rattle.rules.specs.declared.Complex.{Complex}
use Rattle.rules.specs.declared.Legging.{Legging}
use Rattle.rules.specs.declared.Message.{Message}
use Rattle.rules.specs.declared.Message.TheVariants.{LimitedSweep}
use Rattle.rules.specs.declared.Regular.{Regular}
use Rattle.rules.specs.declared.Settings.{Settings}
use Rattle.rules.specs.declared.Venue.{Venue}
use Rattle.rules.specs.Words.{complex_at, legging_at, no_regular, regular_at}
use Rattle.rules.specs.Messages.{encode_message, message_of}
use Rattle.rules.specs.Records.{Report, answer, cancelled, pair, removed, trade}
use Rattle.rules.specs.Trading.{put_regular}
use Rattle.rules.specs.Order.{hit}
use Rattle.rules.specs.Refusals.{refusal}
use Rattle.rules.specs.Calls.{settings}
use Rattle.rules.specs.Sums.{generated_of, total}
use Rattle.rules.specs.Opened.{opened-rules}
use Rattle.rules.proofs.Tests.{and_l, and_r}
use Rattle.demands.specs.Demand.{Accepted, Seen, by_run, call_upon, calls, extend, given_to, opening, parts, start}
use Rattle.demands.specs.Soundness.{SoundAt}
use Rattle.demands.specs.LimitedSweeps.{Stays, looks, looks_all, looks_by, looks_in, resting, round}
use Rattle.demands.specs.Truth.{venue_after}
use Rattle.demands.proofs.Calls.{always-sound}
use Rattle.witness.specs.Witness.{both, bytes_of, regular_sums, reserved, units}
use Rattle.witness.specs.Longer.{Longer, afternoon, arrived, complex_sums, evening, morning, noon, one_by_one}
use Rattle.witness.proofs.Witness.{at_mem}

-- In the evening ------------------------------------------------------------------------------

record Reading : Type 0 where
  done : ℕ
  editions : Settings
  ceiling : ℕ
  standing : Legging
  standing' : Legging
  reserve : Regular
  unequal : Complex
  free : Regular
  hits : List Report
  sums : List ℕ
  reserve_sums : List ℕ
  unequal_sums : List ℕ
  -- three messages, their answers, and how many records there are
  message : Message
  reserve_message : Message
  unequal_message : Message
  answered : Report
  reserve_answered : Report
  unequal_answered : Report
  many : ℕ

reading : Seen → Reading
reading s = record {
  done = s.done;
  editions = settings s.venue 27;
  ceiling = total (generated_of 0) s.reports;
  standing = legging_at s.venue 0 0;
  standing' = legging_at s.venue 2 0;
  reserve = regular_at s.venue 4;
  unequal = complex_at s.venue 6;
  free = regular_at s.venue 6;
  hits = (hit 6 (legging_at s.venue 0 0) 5 (put_regular 6 (record { id = 16; series = 0; side = 1; price = 140; quantity = 5; display = 5; reserve = 0 }) s.venue)).reports;
  sums = complex_sums 6 s;
  reserve_sums = regular_sums 8 1 s;
  unequal_sums = complex_sums 13 s;
  message = message_of (get_or s.messages 5 []);
  reserve_message = message_of (get_or s.messages 7 []);
  unequal_message = message_of (get_or s.messages 21 []);
  answered = get_or s.reports 5 (cancelled 0 0);
  reserve_answered = get_or s.reports 7 (cancelled 0 0);
  unequal_answered = get_or s.reports 63 (cancelled 0 0);
  many = length s.reports;
}

read : Reading
read = record {
  done = 27;
  editions = record { number = 0; increments = 5 ∷ 5 ∷ 5 ∷ 5 ∷ 5 ∷ 5 ∷ 10 ∷ 1 ∷ []; percent = 10 };
  ceiling = 20;
  standing = record { parent = 2; price = 141; quantity = 8 };
  standing' = record { parent = 14; price = 40; quantity = 5 };
  reserve = record { id = 12; series = 1; side = 1; price = 60; quantity = 10; display = 8; reserve = 2 };
  unequal = record { id = 13; series1 = 0; side1 = 0; series2 = 1; side2 = 0; class = 1; limit = pos 300; quantity = 3; ratio1 = 2; ratio2 = 1 };
  free = no_regular;
  hits = trade 0 1 141 5 16 2 ∷ trade 1 0 60 5 2 12 ∷ pair 2 (pos 201) 5 ∷ removed 2 0 0 Executed ∷ [];
  sums = 3 ∷ 3 ∷ 3 ∷ 0 ∷ 0 ∷ 5 ∷ [];
  reserve_sums = 3 ∷ 0 ∷ 9 ∷ [];
  unequal_sums = 0 ∷ 0 ∷ 0 ∷ 0 ∷ 0 ∷ 3 ∷ [];
  message = both 6 0 1 (pos 205) 8;
  reserve_message = reserved 8 1 1 90 12 8;
  unequal_message = units 13 0 2 1 (pos 300) 3;
  answered = answer 6 0 0 0;
  reserve_answered = answer 8 0 0 0;
  unequal_answered = answer 22 0 1 1;
  many = 73;
}

is_read : reading evening ≡ read
unfolding opened-rules reading read bytes_of regular_sums complex_sums morning afternoon one_by_one noon evening start extend parts opening calls call_upon given_to
is_read = refl

-- the record at a place is among the records
is-told : (n : ℕ) (r : Report) → n < 73 → get_or evening.reports n (cancelled 0 0) ≡ r → Memᴰ r evening.reports
unfolding reading read
is-told n r h e =
    let m = ap (λ (x : Reading). x.many) is_read in
    at_mem evening.reports n (cancelled 0 0) r (omega (arith, m)) e

-- At noon -------------------------------------------------------------------------------------

-- an id is at this place of those that rest when each of the messages starts
is_at : (id place : ℕ) → Venue → (n : ℕ) → List (List ℕ) → Bool
is_at x i v n [] = true
is_at x i v n (m ∷ ms) = (ltb i (length (resting v)) && eqb (get_or (resting v) i 0) x) && is_at x i (venue_after v (suc n) m) (suc n) ms

so-stays : (x i : ℕ) (v : Venue) (n : ℕ) (ms : List (List ℕ)) → is_at x i v n ms ≡ true → Stays x v n ms
unfolding is_at
so-stays x i v n [] h = tt
so-stays x i v n (m ∷ ms) h =
    let a = ltb i (length (resting v)) in
    let b = eqb (get_or (resting v) i 0) x in
    let r = is_at x i (venue_after v (suc n) m) (suc n) ms in
    let f = and_l (a && b) r h in (
      at_mem (resting v) i 0 x (ltb-true i (length (resting v)) (and_l a b f)) (eqb-true (get_or (resting v) i 0) x (and_r a b f)),
      so-stays x i (venue_after v (suc n) m) (suc n) ms (and_r (a && b) r h),
    )

record Look : Type 0 where
  done : ℕ
  taken : ℕ
  seven : List ℕ
  first : Bool
  last : Bool
  turns : List ℕ

look : Seen → Look
look s = record {
  done = s.done;
  taken = refusal s.venue (encode_message (LimitedSweep 7));
  seven = looks 7 s.venue;
  first = is_at 1 0 s.venue 23 afternoon;
  last = is_at 14 7 s.venue 23 afternoon;
  turns = looks_all s.venue 23 afternoon;
}

looked : Look
looked = record {
  done = 23;
  taken = 0;
  seven = 1 ∷ 2 ∷ 3 ∷ 4 ∷ 5 ∷ 6 ∷ 13 ∷ [];
  first = true;
  last = true;
  turns = 1 ∷ 2 ∷ 3 ∷ 4 ∷ 5 ∷ 6 ∷ 13 ∷ 14 ∷ 1 ∷ 2 ∷ 3 ∷ 4 ∷ 5 ∷ 6 ∷ 13 ∷ 14 ∷ 1 ∷ [];
}

is-looked : look noon ≡ looked
unfolding opened-rules look looked is_at bytes_of morning afternoon noon start extend parts opening resting round looks looks_by looks_in looks_all venue_after
is-looked = refl

sound-noon : SoundAt 24 noon.venue
unfolding noon calls look looked
sound-noon =
    subst (λ (n : ℕ). SoundAt (suc n) noon.venue) (ap (λ (x : Look). x.done) is-looked) (always-sound (by_run (record { room = 2000; bytes = bytes_of morning })) [])

-- The statement -------------------------------------------------------------------------------

by-computation : message_of (encode_message (LimitedSweep 7)) ≡ LimitedSweep 7
unfolding opened-rules
by-computation = refl

pub longer : Longer
unfolding reading read look looked arrived
longer = record {
  done = ap (λ (x : Reading). x.done) is_read;
  editions = ap (λ (x : Reading). x.editions) is_read;
  band = unfold opened-rules in refl;
  band' = unfold opened-rules in refl;
  ceiling = ap (λ (x : Reading). x.ceiling) is_read;
  standing = ap (λ (x : Reading). x.standing) is_read;
  standing' = ap (λ (x : Reading). x.standing') is_read;
  reserve = ap (λ (x : Reading). x.reserve) is_read;
  unequal = ap (λ (x : Reading). x.unequal) is_read;
  free = ap (λ (x : Reading). x.free) is_read;
  hits = ap (λ (x : Reading). x.hits) is_read;
  accepted = record {
    before = 5;
    is = ap (λ (x : Reading). x.message) is_read;
    mask = 0;
    count = 0;
    told = is-told 5 (answer 6 0 0 0) (omega arith) (ap (λ (x : Reading). x.answered) is_read);
  };
  account = ap (λ (x : Reading). x.sums) is_read;
  reserve_accepted = record {
    before = 7;
    is = ap (λ (x : Reading). x.reserve_message) is_read;
    mask = 0;
    count = 0;
    told = is-told 7 (answer 8 0 0 0) (omega arith) (ap (λ (x : Reading). x.reserve_answered) is_read);
  };
  reserve_account = ap (λ (x : Reading). x.reserve_sums) is_read;
  unequal_accepted = record {
    before = 21;
    is = ap (λ (x : Reading). x.unequal_message) is_read;
    mask = 1;
    count = 1;
    told = is-told 63 (answer 22 0 1 1) (omega arith) (ap (λ (x : Reading). x.unequal_answered) is_read);
  };
  unequal_account = ap (λ (x : Reading). x.unequal_sums) is_read;
  sound = sound-noon;
  limited = by-computation;
  taken = ap (λ (x : Look). x.taken) is-looked;
  seven = ap (λ (x : Look). x.seven) is-looked;
  stays = so-stays 1 0 noon.venue 23 afternoon (ap (λ (x : Look). x.first) is-looked);
  stays' = so-stays 14 7 noon.venue 23 afternoon (ap (λ (x : Look). x.last) is-looked);
  turns = ap (λ (x : Look). x.turns) is-looked;
}
