-- Request (i): "at that moment" is one that a reader of the sheet can see. From a venue, the messages done and the records written, and from nothing else,
-- the books are kept record by record, as a reader would keep them by hand. The books are those of a venue.
use Rattle.std.specs.Prelude.{◌≡◌, List, [], ◌∷◌, map, ℕ, eqb, drop, get_or, take, if◌then◌else◌}
use Rattle.rules.specs.declared.Message.{Message}
use Rattle.rules.specs.declared.Message.TheVariants.{Away, Cancel, Increment, LimitedSweep, Order, Percent, Status, Sweep, TwoLeg}
use Rattle.rules.specs.declared.Venue.{Venue}
use Rattle.rules.specs.Words.{fresh_venue, is_complex_of, is_regular_of, no_legging, place_of, with_complex, with_last, with_reached, with_regular}
use Rattle.rules.specs.Settings.{percentage}
use Rattle.rules.specs.Messages.{message_of}
use Rattle.rules.specs.Records.{Report, answer, cancelled, crossed, generated, looked, pair, removed, trade}
use Rattle.rules.specs.Standing.{show_again}
use Rattle.rules.specs.Trading.{free_complex, free_regular, less_complex, less_regular, put_complex, put_regular}
use Rattle.rules.specs.Generation.{counted, placed}
use Rattle.rules.specs.Complex.{going_round, id_reached}
use Rattle.rules.specs.Places.{close_gaps}
use Rattle.rules.specs.Step.{set_away, set_figure, set_status, step}
use Rattle.demands.specs.Demand.{Later, Opening, calls, opening}
use Rattle.demands.specs.Soundness.{SoundVenue}

-- What a record says --------------------------------------------------------------------------

-- k contracts less of the regular order with an id, shown size first, then reserve; where none has it, nothing changes
unfoldable pub lessen_order : (id k : ℕ) → Venue → Venue
lessen_order id k v = with_regular v (map (λ o. if is_regular_of id o then less_regular k o else o) v.regular)

-- k less of the complex order with an id
unfoldable pub lessen_complex : (id k : ℕ) → Venue → Venue
lessen_complex id k v = with_complex v (map (λ c. if is_complex_of id c then less_complex k c else c) v.complex)

-- so many orders looked at, from the id reached before and going round: the last of them is reached
unfoldable pub looked_at : (count : ℕ) → Venue → Venue
looked_at count v = with_reached v (id_reached v (take count (going_round v)))

-- A message's beginning and end ---------------------------------------------------------------

-- what the message of a number brings by itself: its order is given a place; its away prices, its status or its edition hold
unfoldable pub entered : (number : ℕ) → Message → Venue → Venue
entered number (Order o) v =
    let w = with_last v o.id in
    put_regular (free_regular w) o w
entered number (TwoLeg c) v =
    let w = with_last v c.id in
    put_complex (free_complex w) c w
entered number (Cancel id) v = v
entered number (Away s bid offer) v = set_away s bid offer v
entered number (Status s x) v = set_status s x v
entered number Sweep v = v
entered number (Increment s i e) v = set_figure number s i e v
entered number (Percent x e) v = set_figure number percentage x e v
entered number (LimitedSweep n) v = v

-- a message's last steps, which no record tells: each order shows again, and the gaps are closed
unfoldable pub finished : Venue → Venue
finished v = close_gaps (show_again v)

-- A sheet -------------------------------------------------------------------------------------

-- the books at a place of the sheet, the number told by the last 64 before it (0: none), and the messages whose 64 comes after it
pub record State : Type 0 where
  pub books : Venue
  pub number : ℕ
  pub messages : List (List ℕ)

-- a 64: the message before it ends, and its own begins where it was accepted
unfoldable pub after_answer : (number refusal : ℕ) → State → State
after_answer number refusal x =
    let v = finished x.books in
    record {
      books = if eqb refusal 0 then entered number (message_of (get_or x.messages 0 [])) v else v;
      number = number;
      messages = drop 1 x.messages;
    }

-- the books alone change
unfoldable pub noted : State → Venue → State
noted x v = record { books = v; number = x.number; messages = x.messages }

-- one record more. A complex order that takes, or whose legging order is taken, is lessened by its 66. A 67 counts as of the message at hand.
unfoldable pub next : Report → State → State
next (answer number refusal mask count) x = after_answer number refusal x
next (trade series side price quantity taker maker) x = noted x (lessen_order maker quantity (lessen_order taker quantity x.books))
next (pair id n quantity) x = noted x (lessen_complex id quantity x.books)
next (generated id series side price displayed quantity) x =
    noted x (counted x.number series (placed (place_of series side) (record { parent = id; price = price; quantity = quantity }) x.books))
next (removed id series side cause) x = noted x (placed (place_of series side) no_legging x.books)
next (crossed taker maker n quantity) x = noted x (lessen_complex maker quantity (lessen_complex taker quantity x.books))
next (cancelled id quantity) x = noted x (lessen_complex id quantity (lessen_order id quantity x.books))
next (looked count) x = noted x (looked_at count x.books)

unfoldable pub replay : State → List Report → State
replay x [] = x
replay x (r ∷ rs) = replay (next r x) rs

-- before the first record
unfoldable pub upon : Venue → (messages : List (List ℕ)) → State
upon v ms = record { books = v; number = 0; messages = ms }

-- The claim -----------------------------------------------------------------------------------

-- the sheet tells all that happened: of one message upon a sound venue, and of every list of calls, the books after the last record, its message finished,
-- are the venue left
pub record Replays : Type 0 where
  pub message : (v : Venue) → SoundVenue v → (number : ℕ) (message : List ℕ) →
      finished (replay (upon v (message ∷ [])) (step v number message).effect.reports).books ≡ (step v number message).effect.venue
  pub list : (o : Opening) (cs : List Later) →
      let s = calls (opening o) cs in
      finished (replay (upon fresh_venue s.messages) s.reports).books ≡ s.venue
