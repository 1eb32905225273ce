-- What a call gave that succeeded, where its error was changed by `map_err`.
use Rattle.std.proofs.Common.{◌≡◌, true, Result, Ok, Err, sym, subst}
use Rattle.std.specs.Result.{IfOk, MatchResult, OnOk, is_ok}

pub ok_kept : (D : Type 0) {T E : Type 0} (r : Result T E) (x : T) (P : T → Type 0) (Q : E → Type 0) → MatchResult r (λ y. ◌≡◌ {A = Result T D} (Ok x) (Ok y)) Q → true ≡ is_ok r → IfOk r P → P x
ok_kept D (Ok y) x P Q e t h = let same : x ≡ y = cc in subst P (sym same) h
ok_kept D (Err d) x P Q e t h = absurd cc

pub done_kept : {T E P : Type 0} (r : Result T E) → true ≡ is_ok r → OnOk r P → P
done_kept (Ok y) t h = h
done_kept (Err d) t h = absurd cc
