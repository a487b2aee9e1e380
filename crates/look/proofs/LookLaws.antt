-- The stops of look, stage by stage, and what look and its companion answer. Assumes nothing.
use Rattle.std.proofs.Common.{◌≡◌, ℕ, Bool, false, List, Result, Ok, Err, ◌+◌, ◌*◌, ◌<◌, ◌≤◌, refl, sym, ap, subst, ◌∙◌}
use mathlib.Core.Option.{Option, none, some}
use native.Mathlib.Omega.{arith}
use lib.ListN.{length}
use borrow.Author.Tests.{not-false}
use Rattle.protocol.specs.Types.{this_firmware}
use Rattle.octets.specs.Limits.{nonce_length, fram_limit, part_limit}
use Rattle.octets.specs.Octets.{part}
use Rattle.stops.specs.Stops.{first_of}
use Rattle.stops.specs.declared.Stop.{Stop}
use Rattle.stops.specs.View.{stop_number}
use Rattle.stops.proofs.Laws.{first_stays, first_passes, passes}
use Rattle.ring.specs.declared.found.Reading.{Reading}
use Rattle.ring.specs.Ring.{Newest, read_ring, newest_record, half_named}
use Rattle.ring.specs.View as ring-view
use Rattle.ring.proofs.NewestLaws.{newest_half_fits}
use Rattle.gcm.specs.Calls.{KeyLength}
use Rattle.gcm.proofs.Keys.{whole_key}
use Rattle.checkpoint.specs.Checkpoint.{head_length}
use Rattle.checkpoint.specs.Fram.{fram_wrong, half_length, half_at}
use Rattle.checkpoint.proofs.FramLaws.{an_image, half_within, half_long}
use Rattle.checkpoint.proofs.StoredLaws.{head_facts}
use Rattle.checkpoint.specs.Half.{form_of, good_head, open_length, stored_restarts}
use Rattle.memories.specs.Stages.{of_newest}
use Rattle.memories.specs.Read.{ReadFrom}
use Rattle.memories.proofs.ReadLaws.{found_is, record_is}
use Rattle.protocol.specs.Operations.{newest_half, look_stop, look, look_by, open_stretch, stretch_by}
use Rattle.look.specs.View.{view_seen, view_stretch, looks}
use Rattle.look.specs.Stages.{look_buffers, look_ring, of_half, look_half}
use Rattle.look.specs.Seen.{Finds, Sees}
use Rattle.look.specs.declared.types.Seen.{Seen}

-- stops 11 and 12 of a half, which is number h of the image, said of the record that names it
pub half_checked : (key rec fram half nonce : List ℕ) (h : ℕ) (o : Option ℕ) → h ≡ half_named rec → half ≡ half_at fram h → nonce ≡ part rec 0 nonce_length
    → o ≡ first_of (of_half key nonce half) → o ≡ first_of (look_half key rec fram)
unfolding part
half_checked key rec fram half nonce h o x y n e = e ∙ (λ i. first_of (of_half key (n i) ((y ∙ ap (half_at fram) x) i)))

-- a head that is not good
pub bad_head : (key rec fram half : List ℕ) (h : ℕ) → h ≡ half_named rec → half ≡ half_at fram h → good_head part_limit (form_of half) half ≡ false
    → some 11 ≡ first_of (look_half key rec fram)
unfolding first_of
bad_head key rec fram half h x y e = half_checked key rec fram half (part rec 0 nonce_length) h (some 11) x y refl (rw e)

module _ (pages slots : ℕ) (ring fram key : List ℕ) where
  abbrev read : Newest
  read = read_ring ring pages slots

  abbrev newest : List ℕ
  newest = newest_record ring slots read

  abbrev half : List ℕ
  half = half_at fram (half_named newest)

  abbrev stop : Option ℕ
  stop = look_stop this_firmware ring fram (looks pages slots key)

  abbrev half_lines : List (ℕ × Bool)
  half_lines = look_half key newest fram

  -- ---- what is found of the ring

  not_ok : (s : Stop) (r : Reading) → ◌≡◌ {A = Result Reading Stop} (Err s) (Ok r) → ⊥
  not_ok s r e = cc

  ok_one : (q r : Reading) → ◌≡◌ {A = Result Reading Stop} (Ok q) (Ok r) → q ≡ r
  ok_one q r e = ap found e
    where
      found : Result Reading Stop → Reading
      found (Ok r) = r
      found (Err s) = q

  finds_stop : (s : Stop) → first_of (look_ring pages slots ring fram key) ≡ some (stop_number s) → Finds (Err s) pages slots ring fram key
  finds_stop s e = record { stop = sym e; reads = λ r f. absurd (not_ok s r f) }

  -- a stop about the memories and the key
  pub finds_buffers_stop : (s : Stop) → some (stop_number s) ≡ first_of (look_buffers pages slots ring fram key) → Finds (Err s) pages slots ring fram key
  finds_buffers_stop s e = finds_stop s (first_stays (look_buffers pages slots ring fram key) (of_newest read) (sym e))

  on_ring : (r : Reading) (o : Option ℕ) → none ≡ first_of (look_buffers pages slots ring fram key) → ReadFrom r pages slots ring
      → o ≡ first_of (of_newest (ring-view.newest r.found)) → first_of (look_ring pages slots ring fram key) ≡ o
  on_ring r o e f g = first_passes (look_buffers pages slots ring fram key) (of_newest read) (sym e) ∙ sym (g ∙ ap (λ (n : Newest). first_of (of_newest n)) (found_is r pages slots ring f))

  -- one of what the ring reads as
  pub finds_ring_stop : (r : Reading) (s : Stop) → none ≡ first_of (look_buffers pages slots ring fram key) → ReadFrom r pages slots ring
      → some (stop_number s) ≡ first_of (of_newest (ring-view.newest r.found)) → Finds (Err s) pages slots ring fram key
  finds_ring_stop r s e f g = finds_stop s (on_ring r _ e f g)

  pub finds : (r : Reading) → none ≡ first_of (look_buffers pages slots ring fram key) → ReadFrom r pages slots ring
      → none ≡ first_of (of_newest (ring-view.newest r.found)) → Finds (Ok r) pages slots ring fram key
  finds r e f g = record { stop = sym (on_ring r _ e f g); reads = λ q h. subst (λ (x : Reading). ReadFrom x pages slots ring) (sym (ok_one q r (sym h))) f }

  -- the stops before a half is looked at
  pub ring_stop : {s : ℕ} → first_of (look_ring pages slots ring fram key) ≡ some s → stop ≡ some s
  unfolding look_stop newest_half
  ring_stop e = first_stays (look_ring pages slots ring fram key) half_lines e

  pub on_half : first_of (look_ring pages slots ring fram key) ≡ none → stop ≡ first_of half_lines
  unfolding look_stop newest_half
  on_half e = first_passes (look_ring pages slots ring fram key) half_lines e

  -- what follows where none of them applies
  pub record Passed (r : Reading) : Type 0 where
    pub none_applies : first_of (look_ring pages slots ring fram key) ≡ none
    pub fram_right : fram_wrong fram_limit fram ≡ false
    pub key_long : KeyLength (length key)
    pub found : ring-view.newest r.found ≡ read
    -- of the record that was found
    pub record_newest : (rec : List ℕ) → rec ≡ newest_record r.ring.bytes.now r.ring.slots (ring-view.newest r.found) → rec ≡ newest
    pub names_half : (rec : List ℕ) → rec ≡ newest_record r.ring.bytes.now r.ring.slots (ring-view.newest r.found) → half_named rec ≤ 1

  pub passed : (r : Reading) → Finds (Ok r) pages slots ring fram key → Passed r
  passed r g =
      let n = sym g.stop in
      let p = passes _ n in
      let lines = p.1.1.1 in
      let fits : half_named newest < 2 = newest_half_fits pages slots ring p.0 lines.0 lines.1.0 in
      let from = g.reads r refl in
      let is : (rec : List ℕ) → rec ≡ newest_record r.ring.bytes.now r.ring.slots (ring-view.newest r.found) → rec ≡ newest = λ rec e. e ∙ record_is r pages slots ring from in
      record {
        none_applies = n;
        fram_right = p.1.0;
        key_long = whole_key (length key) p.1.1.0;
        found = found_is r pages slots ring from;
        record_newest = is;
        names_half = λ rec e. let same : half_named rec ≡ half_named newest = ap half_named (is rec e) in omega (arith, fits, same);
      }

  -- ---- what look and its companion answer

  pub sees : (s : Result Seen Stop) {o : Option ℕ} → stop ≡ o → Sees s o fram (half_named newest)
      → (view_seen s ≡ look this_firmware ring fram (looks pages slots key)) × (view_stretch s ≡ open_stretch this_firmware ring fram (looks pages slots key))
  unfolding look open_stretch newest_half
  sees s e f = (
    f.looked ∙ sym (ap (λ (o : Option ℕ). look_by o (stored_restarts (form_of half) half)) e),
    f.stretch ∙ sym (ap (λ (o : Option ℕ). stretch_by o (half_named newest * half_length fram + head_length (form_of half)) (open_length (form_of half) half)) e),
  )

  pub sees_half : (s : Result Seen Stop) (rec : List ℕ) → rec ≡ newest → first_of (look_ring pages slots ring fram key) ≡ none
      → Sees s (first_of (look_half key rec fram)) fram (half_named rec)
      → (view_seen s ≡ look this_firmware ring fram (looks pages slots key)) × (view_stretch s ≡ open_stretch this_firmware ring fram (looks pages slots key))
  sees_half s rec e r f = sees s (on_half r) (subst (λ (l : List ℕ). Sees s (first_of (look_half key l fram)) fram (half_named l)) e f)

  -- where a stop applies nothing is seen
  pub unseen : (s : Stop) → some (stop_number s) ≡ first_of (look_ring pages slots ring fram key)
      → (view_seen (Err s) ≡ look this_firmware ring fram (looks pages slots key)) × (view_stretch (Err s) ≡ open_stretch this_firmware ring fram (looks pages slots key))
  unfolding look_by stretch_by
  unseen s e = sees (Err s) (ring_stop (sym e)) (record { looked = refl; stretch = refl })

  -- the open part lies within the image
  fits : (o : Option ℕ) → stop ≡ o
      → (let z = stretch_by o (half_named newest * half_length fram + head_length (form_of half)) (open_length (form_of half) half) in z.offset + z.length ≤ length fram)
  unfolding stretch_by look_stop newest_half
  fits (some s) e = omega arith
  fits none e =
      let p = passes _ e in
      let lines = p.1.1.1 in
      let h : half_named newest < 2 = newest_half_fits pages slots ring p.0 lines.0 lines.1.0 in
      let good = head_facts part_limit (form_of half) half (not-false _ lines.1.1.0) in
      omega (arith, good.fits, half_long fram (half_named newest) (an_image fram_limit fram p.1.0) (omega arith), half_within fram (half_named newest) (an_image fram_limit fram p.1.0) (omega arith))

  pub stretch_within : (let z = open_stretch this_firmware ring fram (looks pages slots key) in z.offset + z.length ≤ length fram)
  unfolding open_stretch newest_half
  stretch_within = fits stop refl
