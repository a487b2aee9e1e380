-- What was written reads back: the bytes of a job are read as that job, and those of a session as that session. Assumes nothing.
use Rattle.std.proofs.Common.{ℕ, ◌+◌, ◌^◌, ◌≤◌, ◌<◌, ◌≡◌, refl, sym, ap, ap₂, ◌∙◌, false, List, [], ◌∷◌, ◌++◌, arith, eq-eqb, lit<, lit≤, length, length-append}
use lib.ListN.{get_or-append}
use Rattle.octets.specs.Limits.{nonce_length, slot_length, tag_length}
use Rattle.octets.specs.Octets.{part}
use Rattle.octets.specs.Word.{word_at}
use Rattle.octets.proofs.Laws.{part_append_left, part_append_right, part_whole}
use Rattle.octets.proofs.Numbers.{length_bytes, number_ext, number_right, number_bytes}
use Rattle.protocol.specs.Types.{Phase, EraseFirst, Words, Record, EraseAfter, Done, Origin, Save, PowerUp, Job, Session}
use Rattle.job_bytes.specs.Bytes.{job_length, session_length, word_of, phase_number, phase_place, origin_number, job_words, job_bytes, session_bytes, phase_of, origin_of, unknown, no_job_in, job_in, session_in}
use Rattle.job_bytes.proofs.BytesLaws.{words_long, read_job, read_session}

-- ---- a word in a string

word_left : (s t : List ℕ) (i : ℕ) → i + 4 ≤ length s → word_at (s ++ t) i ≡ word_at s i
unfolding word_at
word_left s t i h = number_ext (s ++ t) s i i 4 (λ k l. get_or-append s t 0 (i + k) (omega arith))

word_last : (s : List ℕ) (m n : ℕ) → length s ≡ m → n < 2 ^ 32 → word_at (s ++ word_of n) m ≡ n
unfolding word_at
word_last s m n l h = number_right s (word_of n) m 4 l ∙ number_bytes 4 n h

-- words put behind a string, one after the other
abbrev chain : List ℕ → List ℕ → List ℕ
chain s [] = s
chain s (n ∷ ns) = chain (s ++ word_of n) ns

longer : (s : List ℕ) (m n : ℕ) → length s ≡ m → length (s ++ word_of n) ≡ m + 4
longer s m n l = length-append s (word_of n) ∙ ap₂ (λ (a b : ℕ). a + b) l (length_bytes 4 n)

stays : (s ns : List ℕ) (i : ℕ) → i + 4 ≤ length s → word_at (chain s ns) i ≡ word_at s i
stays s [] i h = refl
stays s (n ∷ ns) i h =
    let l = longer s (length s) n refl in
    stays (s ++ word_of n) ns i (omega (arith, l)) ∙ word_left s (word_of n) i h

-- the word behind s, whatever words come behind it
next : (s ns : List ℕ) (m n : ℕ) → length s ≡ m → n < 2 ^ 32 → word_at (chain (s ++ word_of n) ns) m ≡ n
next s ns m n l h =
    let g = longer s m n l in
    stays (s ++ word_of n) ns m (omega (arith, g)) ∙ word_last s m n l h

part_stays : (s ns : List ℕ) (i n : ℕ) → i + n ≤ length s → part (chain s ns) i n ≡ part s i n
part_stays s [] i n h = refl
part_stays s (m ∷ ns) i n h =
    let l = longer s (length s) m refl in
    part_stays (s ++ word_of m) ns i n (omega (arith, l)) ∙ part_append_left s (word_of m) i n h

-- ---- jobs

-- the numbers fit words, and the nonce and the tag have their lengths
pub record FitsJob (j : Job) : Type 0 where
  pub place : phase_place j.phase < 2 ^ 32
  pub half : j.half < 2 ^ 32
  pub long : j.length < 2 ^ 32
  pub page : j.page < 2 ^ 32
  pub slot : j.slot < 2 ^ 32
  pub nonce : length j.nonce ≡ nonce_length
  pub tag : length j.tag ≡ tag_length
  pub restarts : j.restarts < 2 ^ 32
  pub packet : j.packet < 2 ^ 32

phase_small : (p : Phase) → phase_number p < 2 ^ 32
phase_small (EraseFirst q) = lit< tt
phase_small (Words w) = lit< tt
phase_small Record = lit< tt
phase_small (EraseAfter q) = lit< tt
phase_small Done = lit< tt

origin_small : (o : Origin) → origin_number o < 2 ^ 32
origin_small Save = lit< tt
origin_small PowerUp = lit< tt

phase_known : (p : Phase) → unknown 5 (phase_number p) ≡ false
phase_known (EraseFirst q) = refl
phase_known (Words w) = refl
phase_known Record = refl
phase_known (EraseAfter q) = refl
phase_known Done = refl

origin_known : (o : Origin) → unknown 2 (origin_number o) ≡ false
origin_known Save = refl
origin_known PowerUp = refl

phase_back : (p : Phase) → phase_of (phase_number p) (phase_place p) ≡ p
phase_back (EraseFirst q) = refl
phase_back (Words w) = refl
phase_back Record = refl
phase_back (EraseAfter q) = refl
phase_back Done = refl

origin_back : (o : Origin) → origin_of (origin_number o) ≡ o
origin_back Save = refl
origin_back PowerUp = refl

module _ (j : Job) (fits : FitsJob j) where
  -- all up to the tag
  abbrev to_tag : List ℕ
  to_tag = job_words j ++ j.nonce ++ j.tag

  abbrev last_words : List ℕ
  last_words = j.restarts ∷ j.packet ∷ []

  to_tag_long : length to_tag ≡ 56
  to_tag_long =
      length-append (job_words j ++ j.nonce) j.tag ∙ ap₂ (λ (x y : ℕ). x + y) (length-append (job_words j) j.nonce ∙ ap₂ (λ (x y : ℕ). x + y) (words_long j) fits.nonce) fits.tag

  -- the first words of a job keep their places before the nonce and all that follows
  before_nonce : (i n : ℕ) → i + 4 ≤ 28 → word_at (job_words j) i ≡ n → word_at (job_bytes j) i ≡ n
  unfolding job_bytes
  before_nonce i n h e =
      let l = words_long j in
      let m = length-append (job_words j) j.nonce in
      let t = to_tag_long in
      stays to_tag last_words i (omega (arith, t)) ∙ word_left (job_words j ++ j.nonce) j.tag i (omega (arith, l, m)) ∙ word_left (job_words j) j.nonce i (omega (arith, l)) ∙ e

  long_job : length (job_bytes j) ≡ job_length
  unfolding job_bytes
  long_job = longer (to_tag ++ word_of j.restarts) 60 j.packet (longer to_tag 56 j.restarts to_tag_long)

  words_back : (word_at (job_words j) 0 ≡ phase_number j.phase) × (word_at (job_words j) 4 ≡ phase_place j.phase) × (word_at (job_words j) 8 ≡ origin_number j.origin)
      × (word_at (job_words j) 12 ≡ j.half) × (word_at (job_words j) 16 ≡ j.length) × (word_at (job_words j) 20 ≡ j.page) × (word_at (job_words j) 24 ≡ j.slot)
  unfolding job_words word_at
  words_back =
      let p = phase_number j.phase in
      let q = phase_place j.phase in
      let o = origin_number j.origin in
      let one = word_of p in
      let two = one ++ word_of q in
      let three = two ++ word_of o in
      let four = three ++ word_of j.half in
      let five = four ++ word_of j.length in
      let six = five ++ word_of j.page in
      let l1 = length_bytes 4 p in
      let l2 = longer one 4 q l1 in
      let l3 = longer two 8 o l2 in
      let l4 = longer three 12 j.half l3 in
      let l5 = longer four 16 j.length l4 in
      let l6 = longer five 20 j.page l5 in (
        stays one (q ∷ o ∷ j.half ∷ j.length ∷ j.page ∷ j.slot ∷ []) 0 (omega (arith, l1)) ∙ number_bytes 4 p (phase_small j.phase),
        next one (o ∷ j.half ∷ j.length ∷ j.page ∷ j.slot ∷ []) 4 q l1 fits.place,
        next two (j.half ∷ j.length ∷ j.page ∷ j.slot ∷ []) 8 o l2 (origin_small j.origin),
        next three (j.length ∷ j.page ∷ j.slot ∷ []) 12 j.half l3 fits.half,
        next four (j.page ∷ j.slot ∷ []) 16 j.length l4 fits.long,
        next five (j.slot ∷ []) 20 j.page l5 fits.page,
        next six [] 24 j.slot l6 fits.slot,
      )

  readable : no_job_in (job_bytes j) ≡ false
  unfolding no_job_in
  readable =
      let w = words_back in
      rw (eq-eqb (length (job_bytes j)) job_length long_job, before_nonce 0 _ (lit≤ tt) w.0, before_nonce 8 _ (lit≤ tt) w.2, phase_known j.phase, origin_known j.origin)

  nonce_back : part (job_bytes j) 28 nonce_length ≡ j.nonce
  unfolding job_bytes
  nonce_back =
      let l = words_long j in
      let m = length-append (job_words j) j.nonce in
      let n = fits.nonce in
      let t = to_tag_long in
      part_stays to_tag last_words 28 nonce_length (omega (arith, t)) ∙ part_append_left (job_words j ++ j.nonce) j.tag 28 nonce_length (omega (arith, l, m, n)) ∙ part_append_right (job_words j) j.nonce 28 nonce_length 0 (omega (arith, l))
      ∙ part_whole j.nonce nonce_length n

  tag_back : part (job_bytes j) 40 tag_length ≡ j.tag
  unfolding job_bytes
  tag_back =
      let l = words_long j in
      let m = length-append (job_words j) j.nonce in
      let n = fits.nonce in
      let t = to_tag_long in
      part_stays to_tag last_words 40 tag_length (omega (arith, t)) ∙ part_append_right (job_words j ++ j.nonce) j.tag 40 tag_length 0 (omega (arith, l, m, n)) ∙ part_whole j.tag tag_length fits.tag

  restarts_back : word_at (job_bytes j) 56 ≡ j.restarts
  unfolding job_bytes
  restarts_back = next to_tag (j.packet ∷ []) 56 j.restarts to_tag_long fits.restarts

  packet_back : word_at (job_bytes j) 60 ≡ j.packet
  unfolding job_bytes
  packet_back = next (to_tag ++ word_of j.restarts) [] 60 j.packet (longer to_tag 56 j.restarts to_tag_long) fits.packet

  -- the bytes of a job are read as that job
  pub job_back : job_in (job_bytes j) ≡ j
  job_back =
      let w = words_back in
      sym (read_job (job_bytes j) readable j.phase j.origin j.half j.length j.page j.slot j.nonce j.tag j.restarts j.packet
      (sym (ap₂ phase_of (before_nonce 0 _ (lit≤ tt) w.0) (before_nonce 4 _ (lit≤ tt) w.1) ∙ phase_back j.phase))
      (sym (ap origin_of (before_nonce 8 _ (lit≤ tt) w.2) ∙ origin_back j.origin))
      (sym (before_nonce 12 _ (lit≤ tt) w.3)) (sym (before_nonce 16 _ (lit≤ tt) w.4)) (sym (before_nonce 20 _ (lit≤ tt) w.5))
      (sym (before_nonce 24 _ (lit≤ tt) w.6)) (sym nonce_back) (sym tag_back) (sym restarts_back) (sym packet_back))

-- ---- sessions

pub record FitsSession (s : Session) : Type 0 where
  pub page : s.page < 2 ^ 32
  pub slot : s.slot < 2 ^ 32
  pub latest : length s.latest ≡ slot_length
  pub tag : length s.tag ≡ tag_length
  pub restarts : s.restarts < 2 ^ 32
  pub packet : s.packet < 2 ^ 32

module _ (s : Session) (fits : FitsSession s) where
  abbrev one : List ℕ
  one = word_of s.page

  abbrev two : List ℕ
  two = one ++ word_of s.slot

  abbrev three : List ℕ
  three = two ++ s.latest

  abbrev four : List ℕ
  four = three ++ s.tag

  abbrev five : List ℕ
  five = four ++ word_of s.restarts

  l2 : length two ≡ 8
  l2 = longer one 4 s.slot (length_bytes 4 s.page)

  l3 : length three ≡ 24
  l3 = length-append two s.latest ∙ ap₂ (λ (x y : ℕ). x + y) l2 fits.latest

  l4 : length four ≡ 40
  l4 = length-append three s.tag ∙ ap₂ (λ (x y : ℕ). x + y) l3 fits.tag

  l5 : length five ≡ 44
  l5 = longer four 40 s.restarts l4

  -- the bytes of a session are 48
  pub session_long : length (session_bytes s) ≡ session_length
  unfolding session_bytes
  session_long = longer five 44 s.packet l5

  -- and they are read as that session
  pub session_back : session_in (session_bytes s) ≡ s
  unfolding session_bytes word_at
  session_back =
      let l1 = length_bytes 4 s.page in
      let last = s.restarts ∷ s.packet ∷ [] in
      sym (read_session (chain four last) s.page s.slot s.latest s.tag s.restarts s.packet
      (sym (stays four last 0 (omega (arith, l4)) ∙ word_left three s.tag 0 (omega (arith, l3)) ∙ word_left two s.latest 0 (omega (arith, l2)) ∙ stays one (s.slot ∷ []) 0 (omega (arith, l1)) ∙ number_bytes 4 s.page fits.page))
      (sym (stays four last 4 (omega (arith, l4)) ∙ word_left three s.tag 4 (omega (arith, l3)) ∙ word_left two s.latest 4 (omega (arith, l2)) ∙ next one [] 4 s.slot l1 fits.slot))
      (sym (part_stays four last 8 slot_length (omega (arith, l4)) ∙ part_append_left three s.tag 8 slot_length (omega (arith, l3)) ∙ part_append_right two s.latest 8 slot_length 0 (omega (arith, l2)) ∙ part_whole s.latest slot_length fits.latest))
      (sym (part_stays four last 24 tag_length (omega (arith, l4)) ∙ part_append_right three s.tag 24 tag_length 0 (omega (arith, l3)) ∙ part_whole s.tag tag_length fits.tag))
      (sym (next four (s.packet ∷ []) 40 s.restarts l4 fits.restarts)) (sym (next five [] 44 s.packet l5 fits.packet)))
