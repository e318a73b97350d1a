-- Laws of the takes.
use Rattle.std.proofs.Common.{◌≡◌, ℕ, zero, suc, ◌+◌, ◌-◌, ◌<◌, ◌≤◌, Bool, true, false, refl, ⊎_elim, arith}
use Rattle.std.proofs.lemmas.Bool.{cases_lt, both_ways, cases_Bool}
use Rattle.frame.specs.Ports.{Bursts}
use Rattle.frame.specs.Timing.{seek, first_free, pause, opens, takes}

seek_end : (free : ℕ → Bool) (o : ℕ) → seek free zero o ≡ o
unfolding seek
seek_end free o = refl

seek_hit : (free : ℕ → Bool) (m o : ℕ) → free o ≡ true → seek free m o ≡ o
unfolding seek
seek_hit free zero o h = refl
seek_hit free (suc m) o h = rw (h, seek) refl

seek_miss : (free : ℕ → Bool) (m o : ℕ) → free o ≡ false → seek free (suc m) o ≡ seek free m (suc o)
unfolding seek
seek_miss free m o h = rw (h, seek) refl

pub seek_from : (free : ℕ → Bool) (m o : ℕ) → o ≤ seek free m o
seek_from free zero o = omega (arith, seek_end free o)
seek_from free (suc m) o =
    ⊎_elim
    (λ e. omega (arith, seek_hit free (suc m) o e))
    (λ e. omega (arith, seek_miss free m o e, seek_from free m (suc o)))
    (cases_Bool (free o))

pub seek_to : (free : ℕ → Bool) (m o : ℕ) → seek free m o ≤ o + m
seek_to free zero o = omega (arith, seek_end free o)
seek_to free (suc m) o =
    ⊎_elim
    (λ e. omega (arith, seek_hit free (suc m) o e))
    (λ e. omega (arith, seek_miss free m o e, seek_to free m (suc o)))
    (cases_Bool (free o))

-- it is free there, or none is
pub seek_free : (free : ℕ → Bool) (m o : ℕ) → seek free m o < o + m → free (seek free m o) ≡ true
seek_free free zero o h = absurd (omega (arith, seek_end free o))
seek_free free (suc m) o h =
    ⊎_elim
    (λ e. rw (seek_hit free (suc m) o e) e)
    (λ e. rw (seek_miss free m o e) (seek_free free m (suc o) (omega (arith, seek_miss free m o e))))
    (cases_Bool (free o))

-- none before is
pub seek_none : (free : ℕ → Bool) (m o t : ℕ) → o ≤ t → t < seek free m o → free t ≡ false
seek_none free zero o t h g = absurd (omega (arith, seek_end free o))
seek_none free (suc m) o t h g =
    ⊎_elim
    (λ e. absurd (omega (arith, seek_hit free (suc m) o e)))
    (λ e.
    ⊎_elim
    (λ lt. seek_none free m (suc o) t lt (omega (arith, seek_miss free m o e)))
    (λ ge. let same : t ≡ o = omega arith in rw same e)
    (cases_lt o t))
    (cases_Bool (free o))

-- what the search from o on is told by: not before o, free there unless at the end, none free in between
pub first_from : (free : ℕ → Bool) (end o : ℕ) → o ≤ first_free free end o
unfolding first_free
first_from free end o = seek_from free (end - o) o

pub first_is_free : (free : ℕ → Bool) (end o : ℕ) → first_free free end o < end → free (first_free free end o) ≡ true
unfolding first_free
first_is_free free end o h = seek_free free (end - o) o (let k = seek_from free (end - o) o in omega arith)

pub first_none : (free : ℕ → Bool) (end o t : ℕ) → o ≤ t → t < first_free free end o → free t ≡ false
unfolding first_free
first_none free end o t h g = seek_none free (end - o) o t h g

-- a free clock is the first one from itself
pub first_hit : (free : ℕ → Bool) (end o : ℕ) → free o ≡ true → first_free free end o ≡ o
unfolding first_free
first_hit free end o h = seek_hit free (end - o) o h

pub first_miss : (free : ℕ → Bool) (end o : ℕ) → o < end → free o ≡ false → first_free free end o ≡ first_free free end (suc o)
unfolding first_free
first_miss free end o lt h =
    let e : end - o ≡ suc (end - suc o) = omega arith in
    rw e (seek_miss free (end - suc o) o h)

pub first_to : (free : ℕ → Bool) (end o : ℕ) → first_free free end o ≤ o + (end - o)
unfolding first_free
first_to free end o = seek_to free (end - o) o

-- a search over a bus that is free wherever another is ends no later than that one
pub first_mono :
    (f g : ℕ → Bool) (end o p : ℕ) → ((t : ℕ) → t < end → f t ≡ true → g t ≡ true) → p ≤ o
    → first_free g end p ≤ first_free f end o
first_mono f g end o p more h =
    let a = first_from f end o in
    ⊎_elim
    (λ late.
    ⊎_elim
    (λ inside.
    absurd
    (both_ways
    (g (first_free f end o))
    (first_none g end p (first_free f end o) (omega arith) late)
    (more (first_free f end o) inside (first_is_free f end o inside))))
    (λ out. let b = first_to g end p in omega arith)
    (cases_lt (first_free f end o) end))
    (λ ok. ok)
    (cases_lt (first_free f end o) (first_free g end p))

pub takes_mono :
    (f g : ℕ → Bool) (end : ℕ) (b : Bursts) (base : ℕ) → ((t : ℕ) → t < end → f t ≡ true → g t ≡ true) → (k : ℕ)
    → takes g end b base k ≤ takes f end b base k
unfolding takes opens
takes_mono f g end b base more zero = first_mono f g end base base more (omega arith)
takes_mono f g end b base more (suc k) =
    let ih = takes_mono f g end b base more k in
    first_mono f g end _ _ more (omega arith)

-- a later byte is taken later
pub takes_next : (f : ℕ → Bool) (end : ℕ) (b : Bursts) (base k : ℕ) → takes f end b base k < takes f end b base (suc k)
unfolding takes opens
takes_next f end b base k =
    let a = first_from f end (suc (first_free f end (opens f end b base k)) + pause b (suc k)) in
    omega arith

pub takes_up : (f : ℕ → Bool) (end : ℕ) (b : Bursts) (base j k : ℕ) → j ≤ k → takes f end b base j ≤ takes f end b base k
takes_up f end b base j zero h = let e : j ≡ 0 = omega arith in rw e (omega arith)
takes_up f end b base j (suc k) h =
    ⊎_elim
    (λ lt. let ih = takes_up f end b base j k (omega arith) in let s = takes_next f end b base k in omega arith)
    (λ (ge : suc k ≤ j). let e : j ≡ suc k = omega arith in rw e (omega arith))
    (cases_lt j (suc k))

pub takes_is : (free : ℕ → Bool) (end : ℕ) (b : Bursts) (base k : ℕ) → takes free end b base k ≡ first_free free end (opens free end b base k)
unfolding takes
takes_is free end b base k = refl

pub opens_is : (free : ℕ → Bool) (end : ℕ) (b : Bursts) (base k : ℕ) → opens free end b base (suc k) ≡ suc (takes free end b base k) + pause b (suc k)
unfolding takes opens
opens_is free end b base k = refl

-- a byte is asked for before it is taken, and a later one later
pub opens_before : (free : ℕ → Bool) (end : ℕ) (b : Bursts) (base k : ℕ) → opens free end b base k ≤ takes free end b base k
unfolding takes
opens_before free end b base k = first_from free end (opens free end b base k)

pub opens_up : (free : ℕ → Bool) (end : ℕ) (b : Bursts) (base j k : ℕ) → j ≤ k → opens free end b base j ≤ opens free end b base k
opens_up free end b base j zero h = let e : j ≡ 0 = omega arith in rw e (omega arith)
opens_up free end b base j (suc k) h =
    ⊎_elim
    (λ lt. omega (arith, opens_up free end b base j k (omega arith), opens_before free end b base k, opens_is free end b base k))
    (λ (ge : suc k ≤ j). let e : j ≡ suc k = omega arith in rw e (omega arith))
    (cases_lt j (suc k))
