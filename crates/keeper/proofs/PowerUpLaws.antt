-- The stops of power-up, stage by stage, and what it answers. Assumes nothing.
use Prim.Native.Nat.{ℕ, ◌-◌, ◌<◌, ◌≤◌}
use mathlib.Core.Path.{◌≡◌, sym, ap, ◌∙◌}
use mathlib.Core.Bool.{Bool, true, false, not, ◌||◌}
use mathlib.Core.Option.{Option, none, some}
use mathlib.Core.List.{List, [], ◌∷◌, ◌++◌}
use native.Mathlib.Omega.{arith}
use lib.Dec.{ltb}
use lib.ListN.{length, take}
use borrow.Author.Tests.{eqb-true, ltb-false, not-false}
use Rattle.octets.specs.Limits.{key_lengths, nonce_length, part_limit, fram_limit}
use Rattle.stops.specs.Stops.{first_of, then_stop}
use Rattle.stops.proofs.Laws.{tried, tried_first, first_append, one_more, passes, neither}
use Rattle.ring.specs.Ring.{Newest, ring_wrong, read_ring, nonce_used, newest_record, half_named, target_page, target_slot}
use Rattle.ring.proofs.NewestLaws.{newest_half_fits}
use Rattle.gcm.specs.Calls.{KeyLength}
use Rattle.gcm.proofs.Keys.{whole_key}
use Rattle.checkpoint.specs.Checkpoint.{Older, Longer, empty_length}
use Rattle.checkpoint.specs.Fram.{fram_wrong, half_length}
use Rattle.checkpoint.specs.Half.{form_of, good_head, good_tag, stored}
use Rattle.checkpoint.proofs.FramLaws.{an_image}
use Rattle.ring.specs.View as ring-view
use Rattle.ring.specs.declared.found.Reading.{Reading}
use Rattle.memories.specs.Stages.{of_memories, of_newest}
use Rattle.memories.specs.Read.{ReadFrom}
use Rattle.memories.proofs.ReadLaws.{found_is}
use Rattle.protocol.specs.Types.{Phase, PowerUp, this_firmware}
use Rattle.protocol.specs.Calls.{PowersUp}
use Rattle.protocol.specs.Operations.{key_wrong, nonce_wrong, staging_wrong, state_wrong, Begin, begin, job_of, resumed, first_phase, newest_half, newest_checkpoint, half_lines, power_up_stop, power_up}
use Rattle.jobs.specs.Stages.{stopped}
use Rattle.keeper.specs.Stages.{power_up_buffers, power_up_half}
use Rattle.resealing.specs.Stages.{opening_lines}

-- ---- the buffers' conditions tried one after the other

pub buffers_tried : (ring fram : List ℕ) (a : PowersUp) (c d : Bool) (o₂ o₃ o₄ : Option ℕ)
    → o₂ ≡ first_of (of_memories a.sizes.pages a.sizes.slots ring fram)
    → c ≡ key_wrong key_lengths (length a.key) || nonce_wrong (length a.nonce) → d ≡ staging_wrong a.staging fram || state_wrong this_firmware a.state
    → o₃ ≡ then_stop o₂ 3 c → o₄ ≡ then_stop o₃ 4 d → o₄ ≡ first_of (power_up_buffers ring fram a)
buffers_tried ring fram a c d o₂ o₃ o₄ e x y f g = one_more (_ ∷ _ ∷ _ ∷ []) 4 _ d o₃ o₄ (one_more (_ ∷ _ ∷ []) 3 _ c o₂ o₃ e x f) y g

-- ---- what holds where the buffers pass

pub record Buffers (ring fram : List ℕ) (a : PowersUp) : Type 0 where
  pub ring_right : ring_wrong a.sizes.pages a.sizes.slots ring ≡ false
  pub fram_right : fram_wrong fram_limit fram ≡ false
  pub key : KeyLength (length a.key)
  pub nonce : length a.nonce ≡ nonce_length
  pub staging : half_length fram ≤ length a.staging
  pub state : part_limit ≤ length a.state

pub buffers_pass : (ring fram : List ℕ) (a : PowersUp) → first_of (power_up_buffers ring fram a) ≡ none → Buffers ring fram a
unfolding staging_wrong state_wrong
buffers_pass ring fram a e =
    let p = passes _ e in
    let k = neither (key_wrong key_lengths (length a.key)) (nonce_wrong (length a.nonce)) p.1.1.0 in
    let s = neither (ltb (length a.staging) (half_length fram)) (ltb (length a.state) part_limit) p.1.1.1.0 in
    record {
      ring_right = p.0;
      fram_right = p.1.0;
      key = whole_key (length a.key) k.0;
      nonce = eqb-true (length a.nonce) nonce_length (not-false _ k.1);
      staging = ltb-false (length a.staging) (half_length fram) s.0;
      state = ltb-false (length a.state) part_limit s.1;
    }

-- ---- stage by stage

module _ (ring fram : List ℕ) (a : PowersUp) where
  abbrev read : Newest
  read = read_ring ring a.sizes.pages a.sizes.slots

  abbrev newest : List ℕ
  newest = newest_record ring a.sizes.slots read

  abbrev half : List ℕ
  half = newest_half ring fram a.sizes.slots read

  abbrev latest : List ℕ
  latest = take nonce_length newest

  abbrev used : Bool
  used = nonce_used ring a.sizes.slots read a.nonce

  abbrev ring_lines : List (ℕ × Bool)
  ring_lines = of_newest read

  abbrev head_line : List (ℕ × Bool)
  head_line = (11, not (good_head part_limit (form_of half) half)) ∷ []

  abbrev rest_lines : List (ℕ × Bool)
  rest_lines = opening_lines half (good_tag (form_of half) a.key latest half) used

  pub buffers_stop : {s : ℕ} → first_of (power_up_buffers ring fram a) ≡ some s → power_up_stop this_firmware ring fram a ≡ some s
  unfolding half_lines power_up_stop tried
  buffers_stop e = first_append (power_up_buffers ring fram a) (ring_lines ++ (head_line ++ rest_lines)) e

  on_ring : first_of (power_up_buffers ring fram a) ≡ none → power_up_stop this_firmware ring fram a ≡ first_of (ring_lines ++ (head_line ++ rest_lines))
  unfolding half_lines power_up_stop
  on_ring e = first_append (power_up_buffers ring fram a) (ring_lines ++ (head_line ++ rest_lines)) e ∙ tried_first (ring_lines ++ (head_line ++ rest_lines))

  pub ring_stop : {s : ℕ} → first_of (power_up_buffers ring fram a) ≡ none → first_of ring_lines ≡ some s → power_up_stop this_firmware ring fram a ≡ some s
  unfolding tried
  ring_stop e f = on_ring e ∙ first_append ring_lines (head_line ++ rest_lines) f

  on_head : first_of (power_up_buffers ring fram a) ≡ none → first_of ring_lines ≡ none → power_up_stop this_firmware ring fram a ≡ first_of (head_line ++ rest_lines)
  on_head e f = on_ring e ∙ first_append ring_lines (head_line ++ rest_lines) f ∙ tried_first (head_line ++ rest_lines)

  pub head_stop : first_of (power_up_buffers ring fram a) ≡ none → first_of ring_lines ≡ none → good_head part_limit (form_of half) half ≡ false → power_up_stop this_firmware ring fram a ≡ some 11
  unfolding first_of
  head_stop e f g = on_head e f ∙ rw g

  pub on_half : first_of (power_up_buffers ring fram a) ≡ none → first_of ring_lines ≡ none → good_head part_limit (form_of half) half ≡ true → power_up_stop this_firmware ring fram a ≡ first_of rest_lines
  unfolding first_of
  on_half e f g = on_head e f ∙ rw g

  pub on_record : (rec : List ℕ) (x : Bool) → rec ≡ newest → x ≡ used → first_of (power_up_buffers ring fram a) ≡ none → first_of ring_lines ≡ none → power_up_stop this_firmware ring fram a ≡ first_of (power_up_half a.key rec fram x)
  unfolding newest_half
  on_record rec x r y e f = on_head e f ∙ (λ i. first_of (power_up_half a.key (sym r i) fram (sym y i)))

  -- on a ring that was read
  pub ring_tried : (r : Reading) (o : Option ℕ) → ReadFrom r a.sizes.pages a.sizes.slots ring → o ≡ first_of (of_newest (ring-view.newest r.found)) → o ≡ first_of ring_lines
  ring_tried r o e f = f ∙ ap (λ (n : Newest). first_of (of_newest n)) (found_is r a.sizes.pages a.sizes.slots ring e)

  -- the newest record names a half
  pub names_half : ring_wrong a.sizes.pages a.sizes.slots ring ≡ false → first_of ring_lines ≡ none → half_named newest < 2
  names_half w f = let p = passes _ f in newest_half_fits a.sizes.pages a.sizes.slots ring w p.0 p.1.0

  -- ---- what it answers

  pub power_up_stops : (r : Begin) {s : ℕ} → r ≡ stopped s a.staging a.state → power_up_stop this_firmware ring fram a ≡ some s → r ≡ power_up this_firmware ring fram a
  unfolding power_up begin
  power_up_stops r e f = rw f e

  pub power_up_restores : (r : Begin) (l h : List ℕ) (x : Bool) (phase : Phase) (other page slot : ℕ) → l ≡ latest → h ≡ half → x ≡ used → phase ≡ first_phase read → other ≡ 1 - half_named newest
      → page ≡ target_page a.sizes.pages a.sizes.slots read → slot ≡ target_slot a.sizes.slots read
      → (let old = stored (form_of h) a.key l h in let new = resumed Longer a.key a.nonce old in
      r ≡ begin (first_of (opening_lines h (good_tag (form_of h) a.key l h) x)) a.key new (job_of a.key new phase PowerUp other page slot) a.staging a.state old.secret)
      → power_up_stop this_firmware ring fram a ≡ first_of rest_lines → r ≡ power_up this_firmware ring fram a
  unfolding power_up newest_checkpoint
  power_up_restores r l h x phase other page slot el eh eu ep eo eg es e f =
      e ∙ (λ i. begin (first_of (opening_lines (eh i) (good_tag (form_of (eh i)) a.key (el i) (eh i)) (eu i))) a.key (resumed Longer a.key a.nonce (stored (form_of (eh i)) a.key (el i) (eh i)))
      (job_of a.key (resumed Longer a.key a.nonce (stored (form_of (eh i)) a.key (el i) (eh i))) (ep i) PowerUp (eo i) (eg i) (es i)) a.staging a.state (stored (form_of (eh i)) a.key (el i) (eh i)).secret)
      ∙ rw f

-- the half is long enough to have a head
pub half_long_enough : (fram h : List ℕ) → fram_wrong fram_limit fram ≡ false → length h ≡ half_length fram → empty_length Older ≤ length h
unfolding half_length
half_long_enough fram h w l = let z = an_image fram_limit fram w in omega (arith, l)
