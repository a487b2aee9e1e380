-- The stops of a save, stage by stage, and what it answers. Assumes nothing.
use Prim.Native.Nat.{ℕ, ◌-◌, ◌%◌, ◌≤◌}
use mathlib.Core.Path.{◌≡◌, refl, sym, ap, ◌∙◌}
use mathlib.Core.Bool.{Bool, true, false, not, cond, ◌||◌}
use mathlib.Core.Option.{Option, none, some}
use mathlib.Core.List.{List, [], ◌∷◌}
use native.Mathlib.Omega.{arith}
use lib.Dec.{eqb, ltb}
use lib.ListN.{length}
use borrow.Author.Tests.{eqb-true, eq-eqb, ltb-false, not-false}
use Rattle.octets.specs.Limits.{key_lengths, nonce_length, part_limit, restart_limit, packet_limit, tag_length}
use Rattle.stops.specs.Stops.{first_of, then_stop}
use Rattle.stops.proofs.Laws.{first_passes, first_stays, one_more, passes, neither}
use Rattle.ring.specs.Ring.{Newest, ring_wrong, read_ring, newest_record, half_named, target_page, target_slot}
use Rattle.gcm.specs.Calls.{KeyLength}
use Rattle.gcm.proofs.Keys.{whole_key}
use Rattle.checkpoint.specs.Checkpoint.{Longer, Checkpoint, part_wrong, sealed_length, checkpoint_of}
use Rattle.checkpoint.specs.Fram.{fram_wrong, half_length}
use Rattle.ring.specs.View.{newest}
use Rattle.ring.specs.declared.found.Reading.{Reading}
use Rattle.memories.specs.Stages.{of_memories}
use Rattle.memories.specs.Read.{ReadFrom}
use Rattle.memories.proofs.ReadLaws.{found_is}
use Rattle.protocol.specs.Types.{Words, Save, Session, this_firmware}
use Rattle.protocol.specs.Calls.{From, from_tag, from_session, SaveArguments, saves}
use Rattle.protocol.specs.Operations.{key_wrong, nonce_wrong, tag_wrong, from_wrong, parts_wrong, staging_wrong, packet_wrong, stale, session_wrong, Begin, begin, job_of, written_number, number_from, restarts_from, previous_tag, save_restarts, larger, save_checkpoint, save_target, ring_lines, save_stop, save}
use Rattle.protocol.proofs.Facts.{no_fact}
use Rattle.jobs.specs.Stages.{stopped}
use Rattle.saves.specs.View.{whole_tag}
use Rattle.saves.specs.Stages.{save_buffers, first_lines, next_lines}

-- ---- conditions tried one after the other

pub buffers_tried : (ring fram : List ℕ) (a : SaveArguments) (from : From) (c d : Bool) (o₂ o₃ o₄ o₁₈ : Option ℕ)
    → o₂ ≡ first_of (of_memories a.sizes.pages a.sizes.slots ring fram)
    → c ≡ key_wrong key_lengths (length a.key) || nonce_wrong (length a.nonce) || from_wrong from
    → d ≡ parts_wrong this_firmware a.open_part a.secret fram || staging_wrong a.staging fram
    → o₃ ≡ then_stop o₂ 3 c → o₄ ≡ then_stop o₃ 4 d → o₁₈ ≡ then_stop o₄ 18 (ltb packet_limit a.packet) → o₁₈ ≡ first_of (save_buffers ring fram a from)
unfolding packet_wrong
buffers_tried ring fram a from c d o₂ o₃ o₄ o₁₈ e x y f g h =
    one_more (_ ∷ _ ∷ _ ∷ _ ∷ []) 18 _ _ o₄ o₁₈ (one_more (_ ∷ _ ∷ _ ∷ []) 4 _ d o₃ o₄ (one_more (_ ∷ _ ∷ []) 3 _ c o₂ o₃ e x f) y g) refl h

-- ---- what holds where the first stage passes

pub record Lengths (fram : List ℕ) (a : SaveArguments) : Type 0 where
  pub key : KeyLength (length a.key)
  pub nonce : length a.nonce ≡ nonce_length
  pub packet : a.packet ≤ packet_limit
  pub open_part : length a.open_part ≤ part_limit
  pub secret : length a.secret ≤ part_limit
  pub staging : sealed_length Longer (length a.open_part) (length a.secret) ≤ length a.staging

pub small : (p : List ℕ) → part_wrong part_limit p ≡ false → length p ≤ part_limit
unfolding part_wrong
small p e = ltb-false part_limit (length p) (neither (not (eqb (length p % 4) 0)) (ltb part_limit (length p)) e).1

pub lengths : (fram : List ℕ) (a : SaveArguments) → key_wrong key_lengths (length a.key) ≡ false → nonce_wrong (length a.nonce) ≡ false
    → parts_wrong this_firmware a.open_part a.secret fram || staging_wrong a.staging fram ≡ false → packet_wrong Longer a.packet ≡ false → Lengths fram a
unfolding parts_wrong staging_wrong packet_wrong
lengths fram a k n e h =
    let p = neither (parts_wrong this_firmware a.open_part a.secret fram) (staging_wrong a.staging fram) e in
    let q = neither (part_wrong part_limit a.open_part || part_wrong part_limit a.secret) (ltb (half_length fram) (sealed_length Longer (length a.open_part) (length a.secret))) p.0 in
    let r = neither (part_wrong part_limit a.open_part) (part_wrong part_limit a.secret) q.0 in
    let fits = ltb-false (half_length fram) (sealed_length Longer (length a.open_part) (length a.secret)) q.1 in
    let long = ltb-false (length a.staging) (half_length fram) p.1 in
    record {
      key = whole_key (length a.key) k;
      nonce = eqb-true (length a.nonce) nonce_length (not-false _ n);
      packet = ltb-false packet_limit a.packet h;
      open_part = small a.open_part r.0;
      secret = small a.secret r.1;
      staging = omega (arith, fits, long);
    }

pub record Buffers (ring fram : List ℕ) (a : SaveArguments) (from : From) : Type 0 where
  pub ring_right : ring_wrong a.sizes.pages a.sizes.slots ring ≡ false
  pub lengths_right : Lengths fram a
  pub from_right : from_wrong from ≡ false

pub buffers_pass : (ring fram : List ℕ) (a : SaveArguments) (from : From) → first_of (save_buffers ring fram a from) ≡ none → Buffers ring fram a from
buffers_pass ring fram a from e =
    let p = passes _ e in
    let f = neither (key_wrong key_lengths (length a.key) || nonce_wrong (length a.nonce)) (from_wrong from) p.1.1.0 in
    let n = neither (key_wrong key_lengths (length a.key)) (nonce_wrong (length a.nonce)) f.0 in
    record { ring_right = p.0; lengths_right = lengths fram a n.0 n.1 p.1.1.1.0 p.1.1.1.1.0; from_right = f.1 }

pub right_tag : (tag : List ℕ) → from_wrong (from_tag tag) ≡ false → length tag ≡ tag_length
unfolding from_wrong
right_tag tag e = eqb-true (length tag) tag_length (not-false _ e)

pub tag_right : (tag : List ℕ) → length tag ≡ tag_length → from_wrong (from_tag tag) ≡ false
unfolding from_wrong
tag_right tag e = ap not (eq-eqb (length tag) tag_length e)

-- an empty one does not get here
pub no_wrong_tag : {A : Type 0} (from : From) → from ≡ from_tag [] → from_wrong from ≡ false → A
unfolding from_wrong
no_wrong_tag from f e = no_fact (sym (ap from_wrong f) ∙ e)

-- ---- the stages one after the other

module _ (ring fram : List ℕ) (a : SaveArguments) (from : From) where
  pub buffers_stop : {s : ℕ} → first_of (save_buffers ring fram a from) ≡ some s → save_stop this_firmware ring fram (saves a from) ≡ some s
  unfolding save_stop
  buffers_stop e = first_stays (save_buffers ring fram a from) (ring_lines this_firmware ring fram a from) e

  pub on_ring : first_of (save_buffers ring fram a from) ≡ none → save_stop this_firmware ring fram (saves a from) ≡ first_of (ring_lines this_firmware ring fram a from)
  unfolding save_stop
  on_ring e = first_passes (save_buffers ring fram a from) (ring_lines this_firmware ring fram a from) e

  -- where no stop applies, the first stage passes
  pub buffers_passed : save_stop this_firmware ring fram (saves a from) ≡ none → Buffers ring fram a from
  buffers_passed e = go (first_of (save_buffers ring fram a from)) refl
    where
      go : (o : Option ℕ) → first_of (save_buffers ring fram a from) ≡ o → Buffers ring fram a from
      go (some s) f = let g = buffers_stop f in let z : ◌≡◌ {A = ℕ} 0 1 = cc in absurd (omega arith)
      go none f = buffers_pass ring fram a from f

  -- a stop is answered without a job, and staging stays as it was
  pub save_stops : (r : Begin) {s : ℕ} → r ≡ stopped s a.staging [] → save_stop this_firmware ring fram (saves a from) ≡ some s → r ≡ save this_firmware ring fram (saves a from)
  unfolding save begin
  save_stops r e f = rw f e

-- ---- what a save with a starting tag answers

module _ (ring fram : List ℕ) (a : SaveArguments) (tag : List ℕ) where
  pub on_first : (from : From) → from ≡ from_tag tag → first_of (save_buffers ring fram a from) ≡ none → save_stop this_firmware ring fram (saves a from) ≡ first_of (first_lines ring)
  unfolding ring_lines
  on_first from f e = on_ring ring fram a from e ∙ ap (λ (y : From). first_of (ring_lines this_firmware ring fram a y)) f

  pub first_begins : (r : Begin) → (let c = checkpoint_of a.packet a.open_part a.secret 0 tag a.nonce in
      r ≡ begin none a.key c (job_of a.key c (Words 0) Save 0 0 0) a.staging [] []) → save_stop this_firmware ring fram (saves a (from_tag tag)) ≡ none → r ≡ save this_firmware ring fram (saves a (from_tag tag))
  unfolding save save_checkpoint written_number number_from restarts_from previous_tag save_target
  first_begins r e f = rw f e

-- ---- and one with a session

module _ (ring fram : List ℕ) (a : SaveArguments) (z : Session) where
  abbrev read : Newest
  read = read_ring ring a.sizes.pages a.sizes.slots

  abbrev pub lines_read : List (ℕ × Bool)
  lines_read = next_lines ring a.sizes.slots read z a.nonce

  -- on a ring that was read
  pub lines_tried : (r : Reading) (o : Option ℕ) → ReadFrom r a.sizes.pages a.sizes.slots ring → o ≡ first_of (next_lines r.ring.bytes.now r.ring.slots (newest r.found) z a.nonce)
      → o ≡ first_of lines_read
  lines_tried r o e f = f ∙ (λ i. first_of (next_lines (e.same_bytes i) (e.same_slots i) (found_is r a.sizes.pages a.sizes.slots ring e i) z a.nonce))

  pub on_next : (from : From) → from ≡ from_session z → first_of (save_buffers ring fram a from) ≡ none → save_stop this_firmware ring fram (saves a from) ≡ first_of lines_read
  unfolding ring_lines
  on_next from f e = on_ring ring fram a from e ∙ ap (λ (y : From). first_of (ring_lines this_firmware ring fram a y)) f

  pub session_in_range : first_of lines_read ≡ none → (z.restarts ≤ restart_limit) × (z.packet ≤ packet_limit)
  unfolding session_wrong
  session_in_range e =
      let n = neither (stale ring a.sizes.slots read z) (session_wrong Longer z) (passes _ e).1.1.0 in
      let m = neither (ltb restart_limit z.restarts) (ltb packet_limit z.packet) n.1 in
      (ltb-false restart_limit z.restarts m.0, ltb-false packet_limit z.packet m.1)

  pub next_begins : (r : Begin) (packet restarts half page slot : ℕ) → packet ≡ larger z.packet a.packet
      → restarts ≡ save_restarts Longer a.packet z.packet z.restarts
      → half ≡ 1 - half_named (newest_record ring a.sizes.slots read)
      → page ≡ target_page a.sizes.pages a.sizes.slots read → slot ≡ target_slot a.sizes.slots read
      → (let c = checkpoint_of packet a.open_part a.secret restarts z.tag a.nonce in
      r ≡ begin none a.key c (job_of a.key c (Words 0) Save half page slot) a.staging [] []) → save_stop this_firmware ring fram (saves a (from_session z)) ≡ none
      → r ≡ save this_firmware ring fram (saves a (from_session z))
  unfolding save save_checkpoint written_number number_from restarts_from previous_tag save_target
  next_begins r packet restarts half page slot u v x y w e f =
      let c : ℕ → ℕ → Checkpoint = λ packet restarts. checkpoint_of packet a.open_part a.secret restarts z.tag a.nonce in
      e ∙ (λ i. begin none a.key (c (u i) (v i)) (job_of a.key (c (u i) (v i)) (Words 0) Save (x i) (y i) (w i)) a.staging [] []) ∙ rw f

-- ---- starting tags that are not 16 bytes

-- all of them are refused alike: what is said of an empty one holds of each
module _ (ring fram : List ℕ) (a : SaveArguments) (tag : List ℕ) where
  alike : tag_wrong (length tag) ≡ true → save_stop this_firmware ring fram (saves a (from_tag [])) ≡ save_stop this_firmware ring fram (saves a (from_tag tag))
  unfolding save_stop from_wrong ring_lines
  alike w = λ i. first_of (
      (1, ring_wrong a.sizes.pages a.sizes.slots ring) ∷
      (2, fram_wrong this_firmware.largest_fram fram) ∷
      (3, key_wrong key_lengths (length a.key) || nonce_wrong (length a.nonce) || sym w i) ∷
      (4, parts_wrong this_firmware a.open_part a.secret fram || staging_wrong a.staging fram) ∷
      (18, packet_wrong Longer a.packet) ∷
      first_lines ring)

  empty_stops : (x : ℕ) × (save_stop this_firmware ring fram (saves a (from_tag [])) ≡ some x)
  empty_stops = go (save_stop this_firmware ring fram (saves a (from_tag []))) refl
    where
      go : (o : Option ℕ) → save_stop this_firmware ring fram (saves a (from_tag [])) ≡ o → (x : ℕ) × (save_stop this_firmware ring fram (saves a (from_tag [])) ≡ some x)
      go (some x) e = (x, e)
      go none e = absurd (let l = right_tag [] (buffers_passed ring fram a (from_tag []) e).from_right in omega arith)

  stops_by : (b : Bool) → tag_wrong (length tag) ≡ b → save_stop this_firmware ring fram (saves a (from_tag (cond b [] tag))) ≡ save_stop this_firmware ring fram (saves a (from_tag tag))
  stops_by false e = refl
  stops_by true e = alike e

  pub wrong_stops_alike : save_stop this_firmware ring fram (saves a (from_tag (whole_tag tag))) ≡ save_stop this_firmware ring fram (saves a (from_tag tag))
  wrong_stops_alike = stops_by (tag_wrong (length tag)) refl

  saves_by : (b : Bool) → tag_wrong (length tag) ≡ b → save this_firmware ring fram (saves a (from_tag (cond b [] tag))) ≡ save this_firmware ring fram (saves a (from_tag tag))
  unfolding save begin
  saves_by false e = refl
  saves_by true e = let s = empty_stops in rw (s.1, sym (alike e) ∙ s.1)

  pub wrong_tags_alike : save this_firmware ring fram (saves a (from_tag (whole_tag tag))) ≡ save this_firmware ring fram (saves a (from_tag tag))
  wrong_tags_alike = saves_by (tag_wrong (length tag)) refl
