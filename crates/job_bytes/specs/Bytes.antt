-- Jobs and sessions as bytes (hosts/c/keeper.h): words of four bytes, the most significant first, then the nonce or record and the tag, then the words of the restarts and the packet number.
use Rattle.std.specs.Prelude.{ℕ, Bool, not, cond, ◌||◌, List, ◌++◌, eqb, ltb, length}
use Rattle.octets.specs.Limits.{nonce_length, slot_length, tag_length}
use Rattle.octets.specs.Octets.{part, bytes}
use Rattle.octets.specs.Word.{word_at}
use Rattle.protocol.specs.Types.{Phase, EraseFirst, Words, Record, EraseAfter, Done, Origin, Save, PowerUp, Job, Session}
use Rattle.protocol.specs.Operations.{no_job}

abbrev pub job_length : ℕ
job_length = 64

abbrev pub session_length : ℕ
session_length = 48

-- ---- written

-- a number as a word
abbrev pub word_of : ℕ → List ℕ
word_of n = bytes 4 n

abbrev pub phase_number : Phase → ℕ
phase_number (EraseFirst p) = 1
phase_number (Words w) = 2
phase_number Record = 3
phase_number (EraseAfter p) = 4
phase_number Done = 5

-- the phase's page or word number
abbrev pub phase_place : Phase → ℕ
phase_place (EraseFirst p) = p
phase_place (Words w) = w
phase_place Record = 0
phase_place (EraseAfter p) = p
phase_place Done = 0

abbrev pub origin_number : Origin → ℕ
origin_number Save = 1
origin_number PowerUp = 2

-- those before the nonce
unfoldable pub job_words : Job → List ℕ
job_words j =
    word_of (phase_number j.phase) ++ word_of (phase_place j.phase) ++ word_of (origin_number j.origin) ++ word_of j.half
    ++ word_of j.length ++ word_of j.page ++ word_of j.slot

unfoldable pub job_bytes : Job → List ℕ
job_bytes j = job_words j ++ j.nonce ++ j.tag ++ word_of j.restarts ++ word_of j.packet

unfoldable pub session_bytes : Session → List ℕ
session_bytes s = word_of s.page ++ word_of s.slot ++ s.latest ++ s.tag ++ word_of s.restarts ++ word_of s.packet

-- ---- read

abbrev pub phase_of : ℕ → ℕ → Phase
phase_of n place =
    cond (eqb n 1) (EraseFirst place) (cond (eqb n 2) (Words place) (cond (eqb n 3) Record (cond (eqb n 4) (EraseAfter place) Done)))

abbrev pub origin_of : ℕ → Origin
origin_of n = cond (eqb n 1) Save PowerUp

-- not one of 1 to n
abbrev pub unknown : ℕ → ℕ → Bool
unknown n x = ltb x 1 || ltb n x

-- a job that cannot be read: its length, its phase or its origin is wrong
unfoldable pub no_job_in : List ℕ → Bool
no_job_in b = not (eqb (length b) job_length) || unknown 5 (word_at b 0) || unknown 2 (word_at b 8)

-- in its place stands the job beside a stop, which gives 14 in its place in the order (keeper_c/proofs/InPlace.antt)
unfoldable pub job_in : List ℕ → Job
job_in b = cond (no_job_in b) no_job record {
  phase = phase_of (word_at b 0) (word_at b 4);
  origin = origin_of (word_at b 8);
  half = word_at b 12;
  length = word_at b 16;
  page = word_at b 20;
  slot = word_at b 24;
  nonce = part b 28 nonce_length;
  tag = part b 40 tag_length;
  restarts = word_at b 56;
  packet = word_at b 60;
}

-- of 48 bytes
unfoldable pub session_in : List ℕ → Session
session_in b = record {
  page = word_at b 0;
  slot = word_at b 4;
  latest = part b 8 slot_length;
  tag = part b 24 tag_length;
  restarts = word_at b 40;
  packet = word_at b 44;
}
