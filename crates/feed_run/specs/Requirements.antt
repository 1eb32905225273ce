-- What the functions require, each part by its name.
use Rattle.std.specs.Prelude.{◌≡◌, true, List, ℕ}
use Rattle.feed.specs.Feed.{faultless}

-- two lines without a fault
pub record LinesFaultless (m s : List ℕ) : Type 0 where
  pub main : faultless m ≡ true
  pub spare : faultless s ≡ true
