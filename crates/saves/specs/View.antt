-- What a save is given, and what it is given to follow, stand for (document 02, A.7).
use Rattle.std.specs.Prelude.{ℕ, cond, List, [], length, replicate}
use Rattle.octets.specs.Limits.{tag_length}
use Rattle.protocol.specs.Types as types
use Rattle.protocol.specs.Calls as calls
use Rattle.protocol.specs.Operations.{tag_wrong}
use Rattle.jobs.specs.View.{view_session}
use Rattle.memories.specs.declared.Memories.{Memories}
use Rattle.saves.specs.declared.types.Given.{Given}
use Rattle.saves.specs.declared.types.Given.TheVariants.{StartingTag, Session, WrongTag}
use Rattle.saves.specs.declared.types.From.{From}
use Rattle.saves.specs.declared.types.Draft.{Draft}

-- a starting tag of another length counts as an empty one: both are stop 3 (proofs/Laws.antt)
abbrev pub whole_tag : List ℕ → List ℕ
whole_tag tag = cond (tag_wrong (length tag)) [] tag

-- what the struct's array then holds
abbrev pub kept_tag : List ℕ → List ℕ
kept_tag tag = cond (tag_wrong (length tag)) (replicate tag_length 0) tag

abbrev pub view_given : Given → List ℕ → types.Session → calls.From
view_given StartingTag tag session = calls.from_tag tag
view_given Session tag session = calls.from_session session
view_given WrongTag tag session = calls.from_tag []

abbrev pub view_from : From → calls.From
view_from f = view_given f.given f.tag (view_session f.session)

-- what a save is given besides
abbrev pub save_arguments : ℕ → ℕ → List ℕ → List ℕ → ℕ → List ℕ → List ℕ → List ℕ → calls.SaveArguments
save_arguments pages slots key nonce packet open_part secret staging = record { sizes = calls.sizes pages slots; key = key; nonce = nonce; packet = packet; open_part = open_part; secret = secret; staging = staging }

abbrev pub arguments_of : Memories → Draft → List ℕ → calls.SaveArguments
arguments_of m d staging = save_arguments m.pages m.slots d.key.now d.nonce.now d.packet d.open_part.now d.secret.now staging
