-- The lines of a report memory, typed record by record.
use mathlib.Core.Path.{◌≡◌, refl, sym, ap, ◌∙◌}
use mathlib.Core.List.{List}
use Prim.Native.Nat.{ℕ, zero, suc, ◌+◌, ◌-◌, ◌≤◌}
use native.Mathlib.Omega.{arith}
use lib.ListN.{length, take, drop}
use Rattle.rules.specs.Records.{Report, record_of, records_from, records}
use Rattle.std.specs.Prelude.{Some, None}
use Rattle.records.specs.declared.Found.{Found}
use Rattle.records.specs.Next.{next_record}
use Rattle.records.specs.Seen.{Seen}
use Rattle.records.proofs.NextLaws.{Follows, next-follows, next-ends}
use Rattle.records.proofs.SeenLaws.{part-all}
use Rattle.text.specs.Lines.{line_of, text_of}
use Rattle.text.specs.Typing.{◌types◌}
use Rattle.text.proofs.TypingLaws.{types-append}

-- Typing the lines of the records that stand from a position on would leave w of x.
pub record Left (w : Seen) (report : List ℕ) (x : Seen) (from : ℕ) : Type 0 where
  pub inside : from ≤ length report
  pub fuel : ℕ
  pub enough : length report ≤ from + fuel
  pub is : x types text_of (records_from fuel (drop from report)) ≡ w

pub left-start : (w : Seen) (report : List ℕ) → Left (w types text_of (records report)) report w 0
unfolding records
left-start w report = record { inside = omega arith; fuel = length report; enough = omega arith; is = refl }

module _ {w : Seen} {report : List ℕ} {x : Seen} {from : ℕ} (l : Left w report x from) where
  -- one record more
  pub left-more : (found : Found) (y : Seen) → next_record report from ≡ Some found →
      y ≡ x types line_of (record_of (take (length report - from) (drop from report))) → Left w report y found.end
  unfolding text_of
  left-more found y e q = go l.fuel l.enough l.is
    where
      f : Follows report from found
      f = next-follows report from found e

      go : (fuel : ℕ) → length report ≤ from + fuel → x types text_of (records_from fuel (drop from report)) ≡ w → Left w report y found.end
      go zero enough is = let a = f.further in let b = f.inside in absurd (omega arith)
      go (suc fuel) enough is =
          let r : Report = record_of (drop from report) in
          let rest : List Report = records_from fuel (drop found.end report) in
          let a = f.further in
          record {
            inside = f.inside;
            fuel = fuel;
            enough = omega arith;
            is =
                ap (λ (z : Seen). z types text_of rest) (q ∙ ap (λ (bs : List ℕ). x types line_of (record_of bs)) (part-all report from))
                ∙ sym (types-append x (line_of r) (text_of rest))
                ∙ ap (λ (rs : List Report). x types text_of rs) (sym (f.rest-is fuel))
                ∙ is;
          }

  -- the last was typed
  pub left_end : next_record report from ≡ None → x ≡ w
  unfolding text_of ◌types◌
  left_end e = ap (λ (rs : List Report). x types text_of rs) (sym (next-ends report from e l.fuel)) ∙ l.is
