-- What the functions require, each part by its name.
use Rattle.std.specs.Prelude.{List, ℕ, ◌<◌, ◌≤◌, length}
use Rattle.sheet.specs.Sheet.{most_input, Stands}
use Rattle.demands.specs.Most.{most_report_bytes}
use Rattle.sheet.specs.declared.Progress.{Progress}
use Rattle.sheet.specs.Sheet.{most_text}

-- a message of the input is left, and there is room for its records and their text
pub record LineRoom (m r t : List ℕ) (p : Progress) : Type 0 where
  pub stands : Stands m p
  pub left : p.at < length m
  pub input : length m ≤ most_input
  pub report : most_report_bytes ≤ length r
  pub text : most_text ≤ length t
