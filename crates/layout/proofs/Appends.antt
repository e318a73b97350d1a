-- One text behind another.
use Rattle.std.proofs.Common.{◌≡◌, ℕ, List, ◌++◌, if◌then◌else◌, is_ok, OnOk, Ok, Err, Result, ap, ◌∙◌, append_assoc}

pub next : (o a t : List ℕ) {o₁ o₂ : List ℕ} → o₁ ≡ o ++ a → o₂ ≡ o₁ ++ t → o₂ ≡ o ++ (a ++ t)
next o a t e f = f ∙ (ap (λ (x : List ℕ). x ++ t) e ∙ append_assoc o a t)

-- where the last call succeeded
pub appended : {T E : Type 0} (r : Result T E) (o₁ o₂ : List ℕ) {o : List ℕ} → o ≡ (if is_ok r then o₁ else o₂) → OnOk r (o ≡ o₁)
appended (Ok x) o₁ o₂ e = e
appended (Err x) o₁ o₂ e = tt
