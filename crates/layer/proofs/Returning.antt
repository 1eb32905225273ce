-- What a turn returns, and what it leaves in the report memory.
use mathlib.Core.Path.{◌≡◌, refl, sym, ap, ◌∙◌}
use mathlib.Core.Bool.{true≢false}
use mathlib.Core.Logic.{◌≢◌}
use mathlib.Core.List.{[]}
use Prim.Native.Nat.{ℕ, ◌-◌, ◌≤◌}
use native.Mathlib.Omega.{arith}
use lib.ListN.{drop, replicate}
use Rattle.rules.specs.Records.{encode_all, sheet}
use Rattle.layer.specs.Layer.{Layer, lane_at, head, head_call, idle, next, serve, turn}
use Rattle.layer.specs.Promises.{Returns, ServedAt}
use Rattle.layer.proofs.Ways.{turn_by}
use Rattle.layer.proofs.Lanes.{next-some}
use Rattle.layer.proofs.Order.{wait-split}

zeros : (room : ℕ) → sheet room [] ≡ replicate room 0
unfolding sheet encode_all
zeros room = let z : room - 0 ≡ room = omega arith in rw z

-- the call upon the venue next in turn, where that is v
served-next : (l : Layer) (room v : ℕ) → next l ≢ 4 → next l ≡ v → ServedAt l room v (serve l (next l) (head_call (lane_at l (next l)) room))
unfolding serve head_call
served-next l room v n e = record {
  message = head (lane_at l v);
  others = drop 1 (lane_at l v).wait;
  wait = wait-split (lane_at l v) (rw e at (next-some l n).1);
  same = record {
    number = ap (λ (w : ℕ). (head_call (lane_at l w) room).returned.number) e;
    done = ap (λ (w : ℕ). (head_call (lane_at l w) room).returned.done) e;
    written = ap (λ (w : ℕ). (head_call (lane_at l w) room).returned.written) e;
    report = ap (λ (w : ℕ). (head_call (lane_at l w) room).report) e;
  };
}

pub returns : Returns
unfolding idle serve head_call
returns = record {
  few = λ l room. turn_by (λ t. t.served ≤ 4) l room (λ _. omega arith) (λ _ _. omega arith) (λ _ _ _. omega arith) (λ _ n _. let s = (next-some l n).0 in omega arith);
  served = λ l room v h.
      turn_by (λ t. t.served ≡ v → ServedAt l room v t) l room (λ _ e. absurd (omega arith)) (λ _ _ e. absurd (omega arith)) (λ _ _ _ e. absurd (omega arith))
      (λ _ n _ e. unfold serve head_call in (served-next l room v n e));
  nobody = λ l room.
      turn_by (λ t. t.served ≡ 4 → (t.done ≡ 0) × (t.written ≡ 0) × (t.report ≡ replicate room 0)) l room
      (λ _ _. (refl, refl, zeros room)) (λ _ _ _. (refl, refl, zeros room)) (λ _ _ _ _. (refl, refl, zeros room)) (λ _ n _ e. absurd (n e));
  nine = λ l room u. turn_by (λ t. t.number ≡ 9) l room (λ _. refl) (λ s _. absurd (true≢false (sym s ∙ u))) (λ s _ _. absurd (true≢false (sym s ∙ u))) (λ s _ _. absurd (true≢false (sym s ∙ u)));
  number = λ l room s h. turn_by (λ t. t.number ≡ (head_call (lane_at l (next l)) room).returned.number) l room
      (λ u. absurd (true≢false (sym s ∙ u))) (λ _ e. absurd (omega arith)) (λ _ _ _. refl) (λ _ _ _. refl);
}
