-- Lines and texts, fed by parts.
use Rattle.std.proofs.Common.{◌≡◌, ℕ, ◌+◌, ◌≤◌, Bool, true, false, cond, eqb, leb, ◌≢◌, List, [], ◌∷◌, ◌++◌, length, take, Err, Option, position, option_map, sym, refl, ap, ◌∙◌, ⊎_elim, append_assoc, arith}
use Rattle.std.proofs.lemmas.List.{take-append-le, length-append}
use Rattle.std.proofs.lemmas.Bool.{cases_Bool}
use Rattle.std.proofs.lemmas.Bool.Decides.{nat_tests}
use Rattle.replay.specs.declared.faults.Fault.TheVariants.{Line}
use Rattle.replay.specs.Digits.{bad, wrong}
use Rattle.replay.specs.Requests.{sound}
use Rattle.replay.specs.Prints.{Stage, request_at, said, next, ended, printed_from, Fed, FedSome}

-- a line that is too long is told by its first 66 characters
wrong_longer : (h x : List ℕ) → 67 ≤ length h → wrong (h ++ x) ≡ wrong h
wrong_longer h x k = ap (λ (l : List ℕ). option_map (λ (i : ℕ). i + 1) (position bad l)) (take-append-le 66 h x (omega arith))

request_long : (s : Stage) (h : List ℕ) → 67 ≤ length h → request_at s h ≡ Err (Line (record { column = wrong h }))
request_long s h k =
    let e : leb (length h) 66 ≡ false = grind (arith, nat_tests) in
    let f : sound h ≡ Err (record { column = wrong h }) = grind (arith, nat_tests) in
    rw f refl

request_longer : (s : Stage) (h x : List ℕ) → 67 ≤ length h → request_at s (h ++ x) ≡ Err (Line (record { column = wrong h }))
request_longer s h x k =
    let n = length-append h x in
    request_long s (h ++ x) (omega arith) ∙ ap (λ (m : Option ℕ). Err (Line (record { column = m }))) (wrong_longer h x k)

said_longer : (s : Stage) (h x : List ℕ) → 67 ≤ length h → said s (h ++ x) ≡ said s h
unfolding said
said_longer s h x k = rw (request_longer s h x k, request_long s h k) refl

next_longer : (s : Stage) (h x : List ℕ) → 67 ≤ length h → next s (h ++ x) ≡ next s h
unfolding next
next_longer s h x k = rw (request_longer s h x k, request_long s h k) refl

pub ended_some : (s : Stage) (h : List ℕ) → length h ≢ 0 → said s h ≡ ended s h
ended_some s [] e = absurd (e refl)
ended_some s (x ∷ xs) e = refl

-- a byte of a text: a line feed, or any other
on_feed : (s : Stage) (h : List ℕ) (b : ℕ) (rest : List ℕ) → eqb b 10 ≡ true → printed_from s h (b ∷ rest) ≡ said s h ++ printed_from (next s h) [] rest
unfolding printed_from
on_feed s h b rest e = ap (λ (c : Bool). cond c (said s h ++ printed_from (next s h) [] rest) (printed_from s (h ++ b ∷ []) rest)) e

on_byte : (s : Stage) (h : List ℕ) (b : ℕ) (rest : List ℕ) → eqb b 10 ≡ false → printed_from s h (b ∷ rest) ≡ printed_from s (h ++ b ∷ []) rest
unfolding printed_from
on_byte s h b rest e = ap (λ (c : Bool). cond c (said s h ++ printed_from (next s h) [] rest) (printed_from s (h ++ b ∷ []) rest)) e

at_text_end : (s : Stage) (h : List ℕ) → printed_from s h [] ≡ ended s h
unfolding printed_from
at_text_end s h = refl

-- behind the 67th character of a line it makes no difference what comes
ended_longer : (s : Stage) (h x : List ℕ) → 67 ≤ length h → ended s (h ++ x) ≡ ended s h
ended_longer s h x k =
    let n = length-append h x in
    sym (ended_some s (h ++ x) (λ z. (let a = z in omega arith))) ∙ said_longer s h x k ∙ ended_some s h (λ z. (let a = z in omega arith))

longer_turn : (s : Stage) (h x : List ℕ) (b : ℕ) (bs : List ℕ) → 67 ≤ length h
    → printed_from s (h ++ (x ++ b ∷ [])) bs ≡ printed_from s h bs → printed_from s (h ++ b ∷ []) bs ≡ printed_from s h bs
    → printed_from s (h ++ x) (b ∷ bs) ≡ printed_from s h (b ∷ bs)
longer_turn s h x b bs k i j =
    ⊎_elim
    (λ (e : eqb b 10 ≡ true).
    on_feed s (h ++ x) b bs e ∙ ap (λ (m : List ℕ). m ++ printed_from (next s (h ++ x)) [] bs) (said_longer s h x k)
    ∙ ap (λ (t : Stage). said s h ++ printed_from t [] bs) (next_longer s h x k) ∙ sym (on_feed s h b bs e))
    (λ (e : eqb b 10 ≡ false).
    on_byte s (h ++ x) b bs e ∙ ap (λ (m : List ℕ). printed_from s m bs) (append_assoc h x (b ∷ [])) ∙ i ∙ sym j ∙ sym (on_byte s h b bs e))
    (cases_Bool (eqb b 10))

longer : (rest : List ℕ) (s : Stage) (h x : List ℕ) → 67 ≤ length h → printed_from s (h ++ x) rest ≡ printed_from s h rest
longer [] s h x k = at_text_end s (h ++ x) ∙ ended_longer s h x k ∙ sym (at_text_end s h)
longer (b ∷ bs) s h x k = longer_turn s h x b bs k (longer bs s h (x ++ b ∷ []) k) (longer bs s h (b ∷ []) k)

pub fed_behind : (s : Stage) (h o : List ℕ) (b : ℕ) → b ≢ 10 → 67 ≤ length h → Fed s h (b ∷ []) o s h o
fed_behind s h o b e k rest =
    let f : eqb b 10 ≡ false = grind (arith, nat_tests) in
    ap (λ (m : List ℕ). o ++ m) (sym (on_byte s h b rest f ∙ longer rest s h (b ∷ []) k))

-- where a byte could not be fed, those before it have been
pub fed_kept : (s₀ s s₂ : Stage) (h₀ h h₂ o₀ o o₂ c : List ℕ) (i : ℕ) → s₂ ≡ s → h₂ ≡ h → o₂ ≡ o → Fed s₀ h₀ (take i c) o₀ s h o → FedSome s₀ h₀ c o₀ s₂ h₂ o₂
fed_kept s₀ s s₂ h₀ h h₂ o₀ o o₂ c i e₁ e₂ e₃ g = (i, λ rest. rw (e₁, e₂, e₃) (g rest))
