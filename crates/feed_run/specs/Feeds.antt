-- Where the handing out of two lines stands, and what a turn of it leaves.
use Rattle.std.specs.Prelude.{◌≡◌, List, ℕ, suc, ◌+◌, ◌-◌, ◌≤◌, ◌<◌, length}
use Rattle.demands.specs.Soundness.{SoundAt}
use Rattle.places.specs.Layout.{venue_of, Dense}
use Rattle.feed.specs.Feed.{Part, next}
use Rattle.feed.specs.Cursors.{left_of, up_next, line_after}
use Rattle.feed.specs.Requirements.{LinesLeft}
use Rattle.feed.specs.Turns.{fed_from}
use Rattle.feed_run.specs.declared.FeedProgress.{FeedProgress}
use Rattle.engine.specs.Runs.{Turned}

-- stopped with a number where it stands
abbrev pub stops_at : FeedProgress → (number : ℕ) → FeedProgress
stops_at t k = record { number = k; done = t.done; main = t.main; spare = t.spare; written = t.written }

-- what a turn asks: a sound venue, room, lines that are ready, and something left on one of them
pub record FeedReady (t : FeedProgress) (b l : List ℕ) : Type 0 where
  pub dense : Dense b
  pub sound : SoundAt (suc t.done) (venue_of b)
  pub within : t.written ≤ length l
  pub lines : LinesLeft t.main t.spare t.done

-- from turn t to turn r one message is handed out and done, or the call has ended; m and s are what stands on the lines
pub record Feeds (t : FeedProgress) (b₀ l₀ : List ℕ) (r : FeedProgress) (b l : List ℕ) : Type 0 where
  pub turned : (fuel : ℕ) (m s : List Part) → next (suc t.done) m s ≡ up_next (suc t.done) (left_of t.main) (left_of t.spare) →
      Turned (fed_from (suc fuel) (venue_of b₀) t.done (length l₀ - t.written) m s) t.done t.written l₀ r.number r.done r.written b l
      (fed_from fuel (venue_of b) r.done (length l₀ - r.written) m s)
  pub moved : r.number ≡ 0 → (r.done ≡ suc t.done) × (r.main ≡ line_after (suc t.done) t.main)
      × (r.spare ≡ line_after (suc t.done) t.spare) × (t.main.at + t.spare.at < r.main.at + r.spare.at)
  pub dense : Dense b
  pub sound : SoundAt (suc r.done) (venue_of b)
