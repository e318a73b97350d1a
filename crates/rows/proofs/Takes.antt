-- A row buffer takes what a row takes.
use Rattle.std.proofs.Common.{◌≡◌, ℕ, zero, suc, ◌+◌, ◌-◌, ◌%◌, Bool, true, false, cond, not, ◌&&◌, ◌||◌, eqb, ltb, leb, List, [], ◌∷◌, length, take, drop, Some, None, Option, sym, refl, ap, ◌∙◌, ⊎_elim, arith}
use Rattle.std.proofs.lemmas.Bool.{cases_Bool, cond-true, cond-false}
use Rattle.std.proofs.lemmas.Bool.Decides.{nat_tests}
use Rattle.rows.specs.declared.kinds.Position.{Position}
use Rattle.rows.specs.declared.kinds.Position.TheVariants.{Pair}
use Rattle.rows.specs.declared.kinds.Phase.{Phase}
use Rattle.rows.specs.declared.kinds.Phase.TheVariants.{Ready, Second, Extra, Done}
use Rattle.video.specs.Fields.{field_of}
use Rattle.video.specs.declared.field.Field.{Field}
use Rattle.rows.specs.Lists.{some, upto}
use Rattle.rows.specs.Positions.{field_code, read, positions, stops, stops_all, width}
use Rattle.rows.specs.Takes.{size, dropped}
use Rattle.std.proofs.Math.Bool.{or-false, or_assoc}
use Rattle.rows.proofs.Basics.{leb_suc, ltb_suc, not_zero, width_read, positions_one}
use Rattle.rows.specs.Buffer.{Shown, Buffer, Reading, full, took, put, puts, eat, ending, reads}

-- what a row gives that took `taken` bytes, where t tells that they suffice
unfoldable pub mk : Bool → (taken : ℕ) (over : Bool) → Shown → List ℕ → Option Reading
mk t a o s l = cond t (Some (record { taken = a; over = o; show = s; left = l })) None

same_mk : (t t₂ : Bool) (a a₂ : ℕ) (o o₂ : Bool) (s : Shown) (l l₂ : List ℕ) → t ≡ t₂ → a ≡ a₂ → o ≡ o₂ → l ≡ l₂ → mk t a o s l ≡ mk t₂ a₂ o₂ s l₂
same_mk t t₂ a a₂ o o₂ s l l₂ p q r e = cc

-- the rest of a row that has m positions to fill and has taken k bytes
unfoldable pub outcome : (n m k : ℕ) (o : Bool) → Shown → List Position → List ℕ → Option Reading
outcome n m k o s ps bs =
    mk ((leb m (length ps) || some stops ps) && leb (size ps + dropped n m k ps) (length bs))
    (k + (size ps + dropped n m k ps)) (o || some stops_all ps) (puts s ps) (drop (size ps + dropped n m k ps) bs)

unfoldable pub ready : (m k : ℕ) (o : Bool) → Shown → Buffer
ready m k o s = record { take = record { phase = Ready; room = m; taken = k; over = o }; show = s }

dropped_more : (n m k k₂ : ℕ) (x : Position) (ps : List Position) → stops x ≡ false → k₂ ≡ k + width x → dropped n (suc m) k (x ∷ ps) ≡ dropped n m k₂ ps
dropped_more n m k k₂ x ps h e =
    let a : k + (width x + size ps) ≡ k₂ + size ps = omega arith in
    rw (h, a, ltb_suc (length ps) m) refl

-- a position that does not stop, of one byte and of two
shift₁ : (n m k : ℕ) (o : Bool) (s : Shown) (x : Position) (ps : List Position) (b : ℕ) (bs : List ℕ) → stops x ≡ false → width x ≡ 1
    → outcome n (suc m) k o s (x ∷ ps) (b ∷ bs) ≡ outcome n m (suc k) (o || stops_all x) (put s x) ps bs
unfolding outcome puts
shift₁ n m k o s x ps b bs h e =
    let d = dropped_more n m k (suc k) x ps h (omega arith) in
    let z : size (x ∷ ps) + dropped n (suc m) k (x ∷ ps) ≡ suc (size ps + dropped n m (suc k) ps) = omega arith in
    same_mk _ _ _ _ _ _ _ _ _
    (rw (z, h, leb_suc m (length ps), leb_suc (size ps + dropped n m (suc k) ps) (length bs)) refl)
    (omega arith)
    (sym (or_assoc o (stops_all x) (some stops_all ps)))
    (rw z refl)

shift₂ : (n m k : ℕ) (o : Bool) (s : Shown) (a : Field) (c : ℕ) (ps : List Position) (b b₂ : ℕ) (bs : List ℕ)
    → outcome n (suc m) k o s (Pair a c ∷ ps) (b ∷ b₂ ∷ bs) ≡ outcome n m (suc (suc k)) (o || false) (put s (Pair a c)) ps bs
unfolding outcome puts
shift₂ n m k o s a c ps b b₂ bs =
    let d = dropped_more n m k (suc (suc k)) (Pair a c) ps refl (omega arith) in
    let z : size (Pair a c ∷ ps) + dropped n (suc m) k (Pair a c ∷ ps) ≡ suc (suc (size ps + dropped n m (suc (suc k)) ps)) = omega arith in
    same_mk _ _ _ _ _ _ _ _ _
    (rw (z, leb_suc m (length ps), leb_suc (suc (size ps + dropped n m (suc (suc k)) ps)) (suc (length bs)), leb_suc (size ps + dropped n m (suc (suc k)) ps) (length bs)) refl)
    (omega arith)
    (sym (or_assoc o false (some stops_all ps)))
    (rw z refl)

pub reads_full : (f : Bool) (n : ℕ) (b : Buffer) (bs : List ℕ) → full b.take ≡ true → reads f n b bs ≡ ending b bs
unfolding reads
reads_full f n b [] h = rw (h, reads) refl
reads_full f n b (x ∷ xs) h = rw (h, reads) refl

pub reads_more : (f : Bool) (n : ℕ) (b : Buffer) (x : ℕ) (xs : List ℕ) → full b.take ≡ false → reads f n b (x ∷ xs) ≡ reads f n (eat f n b x) xs
unfolding reads
reads_more f n b x xs h = rw (h, reads) refl

pub reads_none : (f : Bool) (n : ℕ) (b : Buffer) → full b.take ≡ false → reads f n b [] ≡ None
unfolding reads
reads_none f n b h = rw (h, reads) refl

-- a byte that fills a position alone and does not stop
eats_plain : (f : Bool) (n m k : ℕ) (o : Bool) (s : Shown) (b : ℕ) → (not f && field_code b) ≡ false → stops (read b) ≡ false
    → eat f n (ready (suc m) k o s) b ≡ ready m (suc k) (o || stops_all (read b)) (put s (read b))
unfolding eat took ready puts
eats_plain f n m k o s b h e = let z : suc m - 1 ≡ m = omega arith in rw (h, e, z) refl

eats_code : (f : Bool) (n m k : ℕ) (o : Bool) (s : Shown) (b : ℕ) → (not f && field_code b) ≡ true
    → eat f n (ready (suc m) k o s) b ≡ record { take = record { phase = Second (field_of b); room = suc m; taken = suc k; over = o }; show = s }
unfolding eat took ready puts
eats_code f n m k o s b h = let z : suc m - 0 ≡ suc m = omega arith in rw (h, z, or-false o) refl

eats_second : (f : Bool) (n m k : ℕ) (o : Bool) (s : Shown) (a : Field) (b : ℕ)
    → eat f n (record { take = record { phase = Second a; room = suc m; taken = k; over = o }; show = s }) b ≡ ready m (suc k) (o || false) (put s (Pair a (b % 128)))
unfolding eat took ready puts
eats_second f n m k o s a b = let z : suc m - 1 ≡ m = omega arith in rw z refl

-- a stop code
eats_stop : (f : Bool) (n m k : ℕ) (o : Bool) (s : Shown) (b : ℕ) → (not f && field_code b) ≡ false → stops (read b) ≡ true
    → eat f n (ready (suc m) k o s) b
    ≡ record { take = record { phase = cond (eqb (suc k % n) 0 || leb (suc m) 1) Done Extra; room = m; taken = suc k; over = o || (stops_all (read b) || false) }; show = put s (read b) }
unfolding eat took ready puts
eats_stop f n m k o s b h e = let z : suc m - 1 ≡ m = omega arith in rw (h, e, z) refl

eats_extra : (f : Bool) (n m k : ℕ) (o : Bool) (s : Shown) (b : ℕ)
    → eat f n (record { take = record { phase = Extra; room = m; taken = k; over = o }; show = s }) b
    ≡ record { take = record { phase = Done; room = m; taken = suc k; over = o }; show = s }
unfolding eat took ready puts
eats_extra f n m k o s b = let z : m - 0 ≡ m = omega arith in rw (z, or-false o) refl

-- a row that is cut by the stop code x
outcome_stop : (n m k d a : ℕ) (o : Bool) (s : Shown) (x : Position) (b : ℕ) (bs : List ℕ) → stops x ≡ true → width x ≡ 1 → dropped n (suc m) k (x ∷ []) ≡ d → a ≡ d + suc k
    → outcome n (suc m) k o s (x ∷ []) (b ∷ bs) ≡ mk (leb d (length bs)) a (o || (stops_all x || false)) (put s x) (drop d bs)
unfolding outcome puts
outcome_stop n m k d a o s x b bs h w e g =
    let z : size (x ∷ []) + dropped n (suc m) k (x ∷ []) ≡ suc d = omega arith in
    same_mk _ _ _ _ _ _ _ _ _
    (let t : (leb (suc m) 1 || true) ≡ true = grind (arith, nat_tests) in rw (z, h, t, leb_suc d (length bs)) refl)
    (omega arith)
    refl
    (rw z refl)

stop_done : (f : Bool) (n m k : ℕ) (o : Bool) (s : Shown) (x : Position) (ph : Phase) (b : ℕ) (bs : List ℕ) → stops x ≡ true → width x ≡ 1
    → ph ≡ Done → dropped n (suc m) k (x ∷ []) ≡ 0
    → reads f n (record { take = record { phase = ph; room = m; taken = suc k; over = o || (stops_all x || false) }; show = put s x }) bs ≡ outcome n (suc m) k o s (x ∷ []) (b ∷ bs)
unfolding full mk
stop_done f n m k o s x ph b bs h w p d =
    reads_full f n _ bs (rw p refl) ∙ sym (outcome_stop n m k 0 (suc k) o s x b bs h w d (omega arith) ∙ (let t : leb 0 (length bs) ≡ true = grind (arith, nat_tests) in rw t refl))

stop_extra : (f : Bool) (n m k : ℕ) (o : Bool) (s : Shown) (x : Position) (ph : Phase) (b : ℕ) (bs : List ℕ) → stops x ≡ true → width x ≡ 1
    → ph ≡ Extra → dropped n (suc (suc m)) k (x ∷ []) ≡ 1
    → reads f n (record { take = record { phase = ph; room = suc m; taken = suc k; over = o || (stops_all x || false) }; show = put s x }) bs ≡ outcome n (suc (suc m)) k o s (x ∷ []) (b ∷ bs)
unfolding full mk
stop_extra f n m k o s x ph b [] h w p d =
    reads_none f n _ (rw (p, not_zero m) refl) ∙ sym (outcome_stop n (suc m) k 1 (suc (suc k)) o s x b [] h w d (omega arith))
stop_extra f n m k o s x ph b (c ∷ cs) h w p d =
    reads_more f n _ c cs (rw (p, not_zero m) refl)
    ∙ ap (λ (q : Phase). reads f n (eat f n (record { take = record { phase = q; room = suc m; taken = suc k; over = o || (stops_all x || false) }; show = put s x }) c) cs) p
    ∙ ap (λ (q : Buffer). reads f n q cs) (eats_extra f n (suc m) (suc k) (o || (stops_all x || false)) (put s x) c)
    ∙ reads_full f n _ cs refl
    ∙ sym (outcome_stop n (suc m) k 1 (suc (suc k)) o s x b (c ∷ cs) h w d (omega arith) ∙ (let t : leb 1 (suc (length cs)) ≡ true = grind (arith, nat_tests) in rw t refl))

stopped : (f : Bool) (n m k : ℕ) (o : Bool) (s : Shown) (x : Position) (ph : Phase) (b : ℕ) (bs : List ℕ) → stops x ≡ true → width x ≡ 1
    → ph ≡ cond (eqb (suc k % n) 0 || leb (suc m) 1) Done Extra
    → reads f n (record { take = record { phase = ph; room = m; taken = suc k; over = o || (stops_all x || false) }; show = put s x }) bs ≡ outcome n (suc m) k o s (x ∷ []) (b ∷ bs)
stopped f n m k o s x ph b bs h e p = ⊎_elim last (other m bs p) (cases_Bool (eqb (suc k % n) 0))
  where
    sum : k + (width x + 0) ≡ suc k
    sum = omega arith

    last : eqb (suc k % n) 0 ≡ true → reads f n (record { take = record { phase = ph; room = m; taken = suc k; over = o || (stops_all x || false) }; show = put s x }) bs ≡ outcome n (suc m) k o s (x ∷ []) (b ∷ bs)
    last t = stop_done f n m k o s x ph b bs h e (p ∙ rw t refl) (let q : (ltb 1 (suc m) && true && false) ≡ false = grind (arith, nat_tests) in rw (h, sum, t, q) refl)

    other : (m : ℕ) (bs : List ℕ) → ph ≡ cond (eqb (suc k % n) 0 || leb (suc m) 1) Done Extra → eqb (suc k % n) 0 ≡ false
        → reads f n (record { take = record { phase = ph; room = m; taken = suc k; over = o || (stops_all x || false) }; show = put s x }) bs ≡ outcome n (suc m) k o s (x ∷ []) (b ∷ bs)
    other zero bs p t = stop_done f n zero k o s x ph b bs h e (p ∙ rw t refl) refl
    other (suc m) bs p t =
        let q : leb (suc (suc m)) 1 ≡ false = grind (arith, nat_tests) in
        let r : ltb 1 (suc (suc m)) ≡ true = grind (arith, nat_tests) in
        stop_extra f n m k o s x ph b bs h e (p ∙ rw (t, q) refl) (rw (h, sum, t, r) refl)

-- what the induction gives
abbrev pub Below : (f : Bool) (n : ℕ) → List ℕ → Type 0
Below f n bs = (m k : ℕ) (o : Bool) (s : Shown) → reads f n (ready m k o s) bs ≡ outcome n m k o s (upto stops (take m (positions f bs))) bs

plain_byte : (f : Bool) (n m k : ℕ) (o : Bool) (s : Shown) (b : ℕ) (bs : List ℕ) → Below f n bs → (not f && field_code b) ≡ false
    → reads f n (ready (suc m) k o s) (b ∷ bs) ≡ outcome n (suc m) k o s (upto stops (take (suc m) (positions f (b ∷ bs)))) (b ∷ bs)
unfolding full ready
plain_byte f n m k o s b bs below h =
    reads_more f n _ b bs (not_zero m) ∙ (rw (positions_one f b bs h) (⊎_elim stop go (cases_Bool (stops (read b)))))
  where
    Goal : Type 0
    Goal = reads f n (eat f n (ready (suc m) k o s) b) bs ≡ outcome n (suc m) k o s (upto stops (take (suc m) (read b ∷ positions f bs))) (b ∷ bs)

    stop : stops (read b) ≡ true → Goal
    stop e = rw (eats_stop f n m k o s b h e, cond-true (stops (read b)) [] (upto stops (take m (positions f bs))) e) (stopped f n m k o s (read b) _ b bs e (width_read b) refl)

    go : stops (read b) ≡ false → Goal
    go e =
        rw (eats_plain f n m k o s b h e, cond-false (stops (read b)) [] (upto stops (take m (positions f bs))) e)
        (below m (suc k) (o || stops_all (read b)) (put s (read b)) ∙ sym (shift₁ n m k o s (read b) (upto stops (take m (positions f bs))) b bs e (width_read b)))

pair_bytes : (f : Bool) (n m k : ℕ) (o : Bool) (s : Shown) (b c : ℕ) (cs : List ℕ) → Below f n cs → (not f && field_code b) ≡ true
    → reads f n (ready (suc m) k o s) (b ∷ c ∷ cs) ≡ outcome n (suc m) k o s (upto stops (take (suc m) (positions f (b ∷ c ∷ cs)))) (b ∷ c ∷ cs)
unfolding full ready
pair_bytes f n m k o s b c cs below h =
    reads_more f n _ b (c ∷ cs) (not_zero m)
    ∙ ap (λ (x : Buffer). reads f n x (c ∷ cs)) (eats_code f n m k o s b h)
    ∙ reads_more f n _ c cs (not_zero m)
    ∙ ap (λ (x : Buffer). reads f n x cs) (eats_second f n m (suc k) o s (field_of b) c)
    ∙ below m (suc (suc k)) (o || false) (put s (Pair (field_of b) (c % 128)))
    ∙ sym (shift₂ n m k o s (field_of b) (c % 128) (upto stops (take m (positions f cs))) b c cs)
    ∙ sym (ap (λ (ps : List Position). outcome n (suc m) k o s (upto stops (take (suc m) ps)) (b ∷ c ∷ cs)) (cond-true (not f && field_code b) _ _ h))

-- a field code that lacks its character
code_alone : (f : Bool) (n m k : ℕ) (o : Bool) (s : Shown) (b : ℕ) → (not f && field_code b) ≡ true
    → reads f n (ready (suc m) k o s) (b ∷ []) ≡ outcome n (suc m) k o s (upto stops (take (suc m) (positions f (b ∷ [])))) (b ∷ [])
unfolding full ready outcome mk
code_alone f n m k o s b h =
    let t : (leb (suc m) 0 || false) ≡ false = grind (arith, nat_tests) in
    reads_more f n _ b [] (not_zero m)
    ∙ ap (λ (x : Buffer). reads f n x []) (eats_code f n m k o s b h)
    ∙ reads_none f n _ (not_zero m)
    ∙ sym (rw (h, t) refl)

-- a row buffer that stands at the start of a position takes the row's positions, and what follows them, and no more
pub taking : (f : Bool) (n : ℕ) (bs : List ℕ) → Below f n bs
unfolding full ready outcome mk puts
taking f n bs zero k o s =
    let t : leb 0 (length bs) ≡ true = grind (arith, nat_tests) in
    let z : k + 0 ≡ k = omega arith in
    reads_full f n _ bs refl ∙ sym (rw (t, or-false o, z) refl)
taking f n [] (suc m) k o s =
    let t : (leb (suc m) 0 || false) ≡ false = grind (arith, nat_tests) in
    reads_none f n _ (not_zero m) ∙ sym (rw t refl)
taking f n (b ∷ []) (suc m) k o s = ⊎_elim (code_alone f n m k o s b) (plain_byte f n m k o s b [] (taking f n [])) (cases_Bool (not f && field_code b))
taking f n (b ∷ c ∷ cs) (suc m) k o s = ⊎_elim (pair_bytes f n m k o s b c cs (taking f n cs)) (plain_byte f n m k o s b (c ∷ cs) (taking f n (c ∷ cs))) (cases_Bool (not f && field_code b))
