-- Laws of stages: one effect after another, in calls and in loops.
use mathlib.Core.Path.{◌≡◌, sym, ap, ◌∙◌}
use mathlib.Core.List.{List, [], ◌∷◌}
use Prim.Native.Nat.{ℕ}
use lib.ListN.{length}
use Rattle.rules.specs.declared.Venue.{Venue}
use Rattle.rules.specs.Records.{Report}
use Rattle.rules.specs.Effects.{Effect, nothing, report, ◌⟫◌}
use Rattle.records.specs.Seen.{Seen, seen, ◌writes◌}
use Rattle.records.specs.Stage.{Stage, stage, ◌does◌}
use Rattle.records.proofs.SeenLaws.{writes-nil, writes-writes, writes-room}

-- nothing done
pub does-nothing : (v : Venue) (l : List ℕ) (at : ℕ) → stage v l at ≡ seen l at does nothing v
unfolding stage ◌does◌ nothing
does-nothing v l at = ap (λ (w : Seen). record { venue = v; written = w }) (sym (writes-nil (seen l at)))

-- one record
pub does-report : (v : Venue) (l m : List ℕ) (i j : ℕ) (r : Report) → seen l i ≡ seen m j writes (r ∷ []) → stage v l i ≡ seen m j does report r v
unfolding stage ◌does◌ report
does-report v l m i j r e = ap (λ (w : Seen). record { venue = v; written = w }) e

-- after an effect, f upon the stage that it left: a turn of a loop whose invariant is what is left to do
pub onward : (w : Seen) (e : Effect) (f : Venue → Effect) (v : Venue) (l : List ℕ) (at : ℕ) → stage v l at ≡ w does e →
    w does (e ⟫ f) ≡ seen l at does f v
unfolding stage ◌does◌ ◌⟫◌
onward w e f v l at q =
    ap (λ (x : Seen). record { venue = (f e.venue).venue; written = x }) (sym (writes-writes w e.reports (f e.venue).reports))
    ∙ ap (λ (s : Stage). record { venue = (f s.venue).venue; written = s.written writes (f s.venue).reports }) (sym q)

-- one effect and then another: two calls
pub follow : (w : Seen) (e : Effect) (f : Venue → Effect) (v v₂ : Venue) (l l₂ : List ℕ) (at at₂ : ℕ) → stage v l at ≡ w does e →
    stage v₂ l₂ at₂ ≡ seen l at does f v → stage v₂ l₂ at₂ ≡ w does (e ⟫ f)
follow w e f v v₂ l l₂ at at₂ p q = q ∙ sym (onward w e f v l at p)

-- equal stages have slices of one length
pub does-room : (l m : List ℕ) (i j : ℕ) (e f : Effect) → seen l i does e ≡ seen m j does f → length l ≡ length m
unfolding seen ◌does◌
does-room l m i j e f q =
    sym (writes-room (seen l i) e.reports) ∙ ap (λ (s : Stage). length s.written.memory) q ∙ writes-room (seen m j) f.reports

pub stage-room : (v : Venue) (l m : List ℕ) (i j : ℕ) (e : Effect) → stage v l i ≡ seen m j does e → length l ≡ length m
unfolding seen stage ◌does◌
stage-room v l m i j e q = ap (λ (s : Stage). length s.written.memory) q ∙ writes-room (seen m j) e.reports

-- what a stage says apart: the venue, and what is written
pub stage-venue : (v : Venue) (l m : List ℕ) (i j : ℕ) (e : Effect) → stage v l i ≡ seen m j does e → v ≡ e.venue
unfolding stage ◌does◌
stage-venue v l m i j e q = ap (λ (s : Stage). s.venue) q

pub stage-written : (v : Venue) (l m : List ℕ) (i j : ℕ) (e : Effect) → stage v l i ≡ seen m j does e → seen l i ≡ seen m j writes e.reports
unfolding stage ◌does◌
stage-written v l m i j e q = ap (λ (s : Stage). s.written) q
