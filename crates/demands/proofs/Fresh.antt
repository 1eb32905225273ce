-- The fresh venue: the invariant holds of it, and nothing has been written.
use mathlib.Core.Path.{◌≡◌, refl}
use mathlib.Core.Bool.{false≢true, true}
use mathlib.Core.List.Memᴰ
use Prim.Native.Nat.{suc, zero, ℕ}
use native.Mathlib.Omega.{arith}
use lib.ListN.{get_or, length, replicate}
use Rattle.rules.specs.Base.{all, held}
use Rattle.rules.specs.Words.{fresh_venue, is_away, is_status, legging_at, no_complex, no_edition, no_generations, no_legging, no_regular, not_listed, place_of, regular_at, within}
use Rattle.rules.specs.Prices.{rests_at}
use Rattle.rules.specs.Places.{arranged, blank_complex, blank_edition, blank_regular}
use Rattle.rules.specs.Sound.{editions_sound, follows, generations_sound, listed_in_range, unfallen, shows_fully}
use Rattle.rules.specs.Generation.{generations_of}
use Rattle.rules.specs.Sums.{total}
use Rattle.demands.specs.Demand.{start}
use Rattle.rules.proofs.Arranging.{all-at}
use Rattle.rules.proofs.Filling.{cx, lg, reg}
use Rattle.rules.proofs.Generating.{AllStand}
use Rattle.rules.proofs.Integers.{minus, plus}
use Rattle.rules.proofs.Owning.{Own, by_legging, by_regular}
use Rattle.rules.proofs.Settling.{free-stands}
use Rattle.rules.proofs.Traffic.{Busy}
use Rattle.rules.proofs.Showing.{Showing}
use Rattle.rules.proofs.Widths.{Ranged, no-cx, no-lg}
use Rattle.demands.proofs.Account.{Account}
use Rattle.demands.proofs.Homes.{Edited, Invariant, Tidy}

pub get_d-rep : {A : Type 0} (n i : ℕ) (a : A) → get_or (replicate n a) i a ≡ a
get_d-rep zero i a = refl
get_d-rep (suc n) zero a = refl
get_d-rep (suc n) (suc i) a = get_d-rep n i a

fresh-reg : (i : ℕ) → held (reg fresh_venue i).quantity ≡ true → ⊥
unfolding fresh_venue
fresh-reg i h = false≢true (rw (get_d-rep 128 i no_regular) at h)

fresh-cx : (i : ℕ) → held (cx fresh_venue i).quantity ≡ true → ⊥
unfolding fresh_venue
fresh-cx i h = false≢true (rw (get_d-rep 32 i no_complex) at h)

fresh-lg : (i : ℕ) → lg fresh_venue i ≡ no_legging
unfolding fresh_venue
fresh-lg i = get_d-rep 16 i no_legging

fresh-lengths : (length fresh_venue.regular ≡ 128) × (length fresh_venue.complex ≡ 32) × (length fresh_venue.legging ≡ 16)
unfolding fresh_venue
fresh-lengths = (refl, refl, refl)

fresh-stand : AllStand fresh_venue
unfolding AllStand
fresh-stand i = rw (fresh-lg i) (free-stands fresh_venue i no_legging refl)

fresh-ranged : Ranged fresh_venue
unfolding fresh_venue plus minus listed_in_range is_status is_away within all
fresh-ranged = record {
  regular = λ i. rw (get_d-rep 128 i no_regular) (record { id = omega arith; series = omega arith; side = omega arith; price = omega arith; quantity = omega arith; ok = λ h. absurd (false≢true h) });
  complex = λ i. rw (get_d-rep 32 i no_complex) no-cx;
  legging = λ i. rw (get_d-rep 16 i no_legging) no-lg;
  listed = all-at listed_in_range not_listed fresh_venue.series refl refl;
  last = omega arith;
  len = refl;
  eight = refl;
  dated = λ i h. absurd (false≢true (rw (get_d-rep 32 i no_edition) at h));
}

fresh-showing : Showing fresh_venue
unfolding Showing fresh_venue shows_fully
fresh-showing i = rw (get_d-rep 128 i no_regular)

fresh-tidy : Tidy fresh_venue
unfolding fresh_venue blank_regular blank_complex
fresh-tidy = record {
  dense1 = λ i j q h. absurd (fresh-reg j h);
  dense2 = λ i j q h. absurd (fresh-cx j h);
  blank1 = λ i h. rw (get_d-rep 128 i no_regular);
  blank2 = λ i h. rw (get_d-rep 32 i no_complex);
}

fresh-own : {s d p : ℕ} → Own fresh_venue s d p → ⊥
unfolding fresh_venue regular_at legging_at rests_at
fresh-own (by_regular i r e) = false≢true (rw (get_d-rep 128 i no_regular) at r)
fresh-own {s} {d} (by_legging h e) = false≢true (rw (get_d-rep 16 (place_of s d) no_legging) at h)

fresh-edited : Edited fresh_venue
unfolding fresh_venue editions_sound arranged all blank_edition
fresh-edited = record { len = refl; rise = refl }

fresh-busy : Busy fresh_venue
unfolding fresh_venue generations_of generations_sound unfallen all
fresh-busy = record { eight = refl; twenty = λ s. rw (get_d-rep 8 s no_generations) refl; rise = refl }

pub fresh-follows : follows 1 fresh_venue ≡ true
unfolding fresh_venue follows all
fresh-follows = refl

pub fresh-invariant : Invariant fresh_venue
fresh-invariant = record {
  fine = record {
    good = record {
      len1 = fresh-lengths.0;
      len2 = fresh-lengths.1;
      ranges = λ j h. absurd (fresh-cx j h);
      rise1 = λ i j q h k. absurd (fresh-reg i h);
      rise2 = λ i j q h k. absurd (fresh-cx i h);
      rx = λ i j h k e. fresh-reg i h;
      rlast = λ i h. absurd (fresh-reg i h);
      xlast = λ j h. absurd (fresh-cx j h);
    };
    homes = record { len = fresh-lengths.2; home = λ n h. absurd (false≢true (rw (fresh-lg n) at h)) };
  };
  stand = fresh-stand;
  tidy = fresh-tidy;
  ranged = fresh-ranged;
  showing = fresh-showing;
  uncrossed = λ s a b s8 p q. absurd (fresh-own p);
  edited = fresh-edited;
  busy = fresh-busy;
  reached = unfold fresh_venue in (omega arith);
  priced = λ i h. absurd (fresh-reg i h);
}

pub start-account : Account start
unfolding start total
start-account = record {
  invariant = fresh-invariant;
  few = omega arith;
  dated = fresh-follows;
  count = refl;
  numbers = λ j x m c h. absurd (Memᴰ.not-nil h);
  orders = λ o m. absurd (Memᴰ.not-nil m.told);
  complexes = λ c m. absurd (Memᴰ.not-nil m.told);
  above = λ y lt. record { contracts0 = λ s. refl; paired0 = refl; crossed0 = refl; cancelled0 = refl };
}
