-- Laws of jobs and sessions as bytes. Assumes nothing.
use Rattle.std.proofs.Common.{ℕ, ◌+◌, ◌/◌, ◌%◌, ◌≡◌, refl, ap, ap₂, ◌∙◌, Bool, true, false, not, ◌||◌, List, [], ◌∷◌, ◌++◌, arith, eqb-true, eqb, length}
use borrow.Author.Tests.{not-false}
use Rattle.octets.specs.Limits.{nonce_length, slot_length, tag_length}
use Rattle.octets.specs.Octets.{part, put, bytes}
use Rattle.octets.specs.Word.{word_at}
use Rattle.octets.proofs.Laws.{length_part}
use Rattle.octets.proofs.Numbers.{length_bytes}
use Rattle.octets.proofs.Lent.{Front, front_on, front_whole}
use Rattle.stops.proofs.Laws.{neither}
use Rattle.protocol.specs.Types.{Phase, Origin, Job, Session}
use Rattle.protocol.specs.Operations.{no_job}
use Rattle.job_bytes.specs.Bytes.{job_length, session_length, word_of, phase_number, phase_place, origin_number, job_words, job_bytes, session_bytes, phase_of, origin_of, unknown, no_job_in, job_in, session_in}

-- a buffer that holds a job is as long as one
pub job_long : (b : List ℕ) → no_job_in b ≡ false → length b ≡ job_length
unfolding no_job_in
job_long b e =
    let first = (neither (not (eqb (length b) job_length) || unknown 5 (word_at b 0)) (unknown 2 (word_at b 8)) e).0 in
    eqb-true (length b) job_length (not-false _ (neither (not (eqb (length b) job_length)) (unknown 5 (word_at b 0)) first).0)

-- a word is the low 32 bits of its number
pub low_word : (n : ℕ) → bytes 4 (n % 4294967296) ≡ bytes 4 n
unfolding bytes
low_word n =
    let a : n % 4294967296 / 16777216 % 256 ≡ n / 16777216 % 256 = omega arith in
    let b : n % 4294967296 / 65536 % 256 ≡ n / 65536 % 256 = omega arith in
    let c : n % 4294967296 / 256 % 256 ≡ n / 256 % 256 = omega arith in
    let d : n % 4294967296 / 1 % 256 ≡ n / 1 % 256 = omega arith in
    ap₂ (λ (h : ℕ) (t : List ℕ). h ∷ t) a (ap₂ (λ (h : ℕ) (t : List ℕ). h ∷ t) b (ap₂ (λ (h : ℕ) (t : List ℕ). h ∷ t) c (ap (λ (h : ℕ). h ∷ []) d)))

-- ---- reading

module _ (b : List ℕ) where
  pub read_job : no_job_in b ≡ false → (phase : Phase) (origin : Origin) (half long page slot : ℕ) (nonce tag : List ℕ) (restarts packet : ℕ)
      → phase ≡ phase_of (word_at b 0) (word_at b 4) → origin ≡ origin_of (word_at b 8) → half ≡ word_at b 12 → long ≡ word_at b 16 → page ≡ word_at b 20
      → slot ≡ word_at b 24 → nonce ≡ part b 28 nonce_length → tag ≡ part b 40 tag_length → restarts ≡ word_at b 56 → packet ≡ word_at b 60
      → record { phase = phase; origin = origin; half = half; length = long; page = page; slot = slot; nonce = nonce; tag = tag; restarts = restarts; packet = packet } ≡ job_in b
  unfolding job_in
  read_job e phase origin half long page slot nonce tag restarts packet p o h l g s n t r k =
      rw e (λ i. record { phase = p i; origin = o i; half = h i; length = l i; page = g i; slot = s i; nonce = n i; tag = t i; restarts = r i; packet = k i })

  pub read_session : (page slot : ℕ) (latest tag : List ℕ) (restarts packet : ℕ)
      → page ≡ word_at b 0 → slot ≡ word_at b 4 → latest ≡ part b 8 slot_length → tag ≡ part b 24 tag_length → restarts ≡ word_at b 40 → packet ≡ word_at b 44
      → record { page = page; slot = slot; latest = latest; tag = tag; restarts = restarts; packet = packet } ≡ session_in b
  unfolding session_in
  read_session page slot latest tag restarts packet g s n t r k = λ i. record { page = g i; slot = s i; latest = n i; tag = t i; restarts = r i; packet = k i }

  -- in the place of a job that cannot be read
  pub unread : no_job_in b ≡ true → job_in b ≡ no_job
  unfolding job_in
  unread e = rw e

  -- what is read has a nonce and a tag of their lengths, a job's whatever the bytes are
  job_lengths_by : (none : Bool) → no_job_in b ≡ none → (length (job_in b).nonce ≡ nonce_length) × (length (job_in b).tag ≡ tag_length)
  unfolding job_in no_job
  job_lengths_by true e = rw e (refl, refl)
  job_lengths_by false e =
      let l = job_long b e in
      rw e (length_part b 28 nonce_length (omega arith), length_part b 40 tag_length (omega arith))

  pub job_lengths : (length (job_in b).nonce ≡ nonce_length) × (length (job_in b).tag ≡ tag_length)
  job_lengths = job_lengths_by (no_job_in b) refl

  pub session_tag : length b ≡ session_length → length (session_in b).tag ≡ tag_length
  unfolding session_in
  session_tag l = length_part b 24 tag_length (omega arith)

-- ---- writing

-- the first word, and one word more
pub first_word : {xs zs : List ℕ} (n : ℕ) → zs ≡ put xs 0 (word_of n) → Front xs zs (word_of n) 4
first_word n e = record { written = e; long = length_bytes 4 n }

pub word_on : {xs zs F : List ℕ} {j : ℕ} (n : ℕ) (zs' : List ℕ) → Front xs zs F j → zs' ≡ put zs j (word_of n) → Front xs zs' (F ++ word_of n) (j + 4)
word_on n zs' f e = front_on (word_of n) zs' 4 f e (length_bytes 4 n)

-- a word of a number that is known by another name
pub named : (xs zs : List ℕ) (i n m : ℕ) → zs ≡ put xs i (word_of n) → n ≡ m → zs ≡ put xs i (word_of m)
named xs zs i n m h e = h ∙ ap (λ (k : ℕ). put xs i (word_of k)) e

pub seven_words : (j : Job) {xs a b c d e f g : List ℕ}
    → a ≡ put xs 0 (word_of (phase_number j.phase)) → b ≡ put a 4 (word_of (phase_place j.phase)) → c ≡ put b 8 (word_of (origin_number j.origin))
    → d ≡ put c 12 (word_of j.half) → e ≡ put d 16 (word_of j.length) → f ≡ put e 20 (word_of j.page) → g ≡ put f 24 (word_of j.slot)
    → Front xs g (job_words j) 28
unfolding job_words
seven_words j p q r s t u v = word_on _ _ (word_on _ _ (word_on _ _ (word_on _ _ (word_on _ _ (word_on _ _ (first_word _ p) q) r) s) t) u) v

pub words_long : (j : Job) → length (job_words j) ≡ 28
words_long j = (seven_words j {xs = []} refl refl refl refl refl refl refl).long

pub written_job : (j : Job) {xs a b c d e : List ℕ} → length xs ≡ job_length → length j.nonce ≡ nonce_length → length j.tag ≡ tag_length
    → Front xs a (job_words j) 28 → b ≡ put a 28 j.nonce → c ≡ put b 40 j.tag → d ≡ put c 56 (word_of j.restarts)
    → e ≡ put d 60 (word_of j.packet) → e ≡ job_bytes j
unfolding job_bytes
written_job j l n t f p q r k =
    front_whole (word_on j.packet _ (word_on j.restarts _ (front_on j.tag _ tag_length (front_on j.nonce _ nonce_length f p n) q t) r) k) l

pub written_session : (s : Session) (xs : List ℕ) {a b c d e f : List ℕ} → length xs ≡ session_length → length s.latest ≡ slot_length → length s.tag ≡ tag_length
    → a ≡ put xs 0 (word_of s.page) → b ≡ put a 4 (word_of s.slot) → c ≡ put b 8 s.latest → d ≡ put c 24 s.tag
    → e ≡ put d 40 (word_of s.restarts) → f ≡ put e 44 (word_of s.packet) → f ≡ session_bytes s
unfolding session_bytes
written_session s xs l n t p q u v r k =
    front_whole
    (word_on s.packet _ (word_on s.restarts _ (front_on s.tag _ tag_length (front_on s.latest _ slot_length (word_on s.slot _ (first_word s.page p) q) u n) v t) r) k) l
