use Rattle.std.proofs.Common.{◌≡◌, ℕ, ◌≤◌, List, [], ◌++◌, length, take, refl, sym, subst, ◌∙◌, rules}
use Rattle.std.specs.declared.option.Option.{Option}
use Rattle.std.specs.Io.KnownBytes.{Appends}
use Rattle.std.proofs.KnownBytes.{Appends-nil, Appends-trans}
use Rattle.demands.specs.Most.{most_report_bytes}
use Rattle.sheet.specs.declared.Progress.{Progress}
use Rattle.sheet.specs.Sheet.{Prints, none_printed, more, most_input, most_text, sheet_text, started}
use Rattle.sheet.proofs.SheetLaws.{Going, stands-start, whole-list}
use Rattle.sheet.proofs.Errors.{done_kept}
use Rattle.sheet.proofs.print_list.Goals as goal

-- where the loop stands, and what the writer took on the way
abbrev Written : (m : List ℕ) (p : Progress) (report text : List ℕ) (a b : Option (List ℕ)) → Type 0
Written m p report text a b = (x : Going m p report text) × Appends a b x.printed

at_first : (m report text : List ℕ) (p : Progress) (a : Option (List ℕ)) → p ≡ started → length report ≡ most_report_bytes → length text ≡ most_text → Written m p report text a a
at_first m report text p a e h k =
    subst (λ q. Written m q report text a a) (sym e)
    (record { printed = []; so_far = none_printed; stands = stands-start m; report-length = h; text-length = k }, Appends-nil a)

then : (m report text report2 text2 : List ℕ) (p r : Progress) (a b d : Option (List ℕ)) → Written m p report text a b → Prints m p text2 r →
    length report2 ≡ length report → length text2 ≡ length text → Appends b d (take r.written text2) → Written m r report2 text2 a d
then m report text report2 text2 p r a b d w h k l t =
    let x = w.0 in (
      record {
        printed = x.printed ++ take r.written text2;
        so_far = more text2 r x.so_far h;
        stands = h.stands;
        report-length = k ∙ x.report-length;
        text-length = l ∙ x.text-length;
      },
      Appends-trans a b d _ _ w.1 t,
    )

at_last : (m report text : List ℕ) (p : Progress) (a b : Option (List ℕ)) → length m ≤ most_input → Written m p report text a b → length m ≤ p.at → Appends a b (sheet_text m)
at_last m report text p a b few w h = subst (Appends a b) (whole-list m few w.0.printed p w.0.so_far h) w.1

pub loop-p-init : goal.loop-p-init
loop-p-init g c = at_first _ _ _ _ _ c.start-p.ensures refl refl

pub loop-p-preserved : goal.loop-p-preserved
loop-p-preserved g c = then _ _ _ _ _ _ _ _ _ _ c.loop-p.invariant c.advance-p.ensures (search rules) (search rules) (done_kept _ c.in_ok-map_err.ensures.variant c.write_all.ensures.bytes)

pub returns : goal.returns
returns g c = at_last _ _ _ _ _ _ c.requires c.loop-p.invariant c.loop-p-test.false
