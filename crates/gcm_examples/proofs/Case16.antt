-- Test case 16: AES-256. Assumes nothing.
use mathlib.Core.List.{List, ◌++◌}
use mathlib.Core.Path.{◌≡◌, refl, ap}
use Prim.Native.Nat.{ℕ}
use lib.ListN.{replicate}
use Rattle.octets.specs.Octets.{part, number, bytes}
use Rattle.sbox.specs.Field.{xtime, times, ◌•◌, power, inverse, turned, affine, sub_byte}
use Rattle.aes.specs.State.{sub_bytes, mix_column, mix_columns, add_round_key}
use Rattle.aes_key.specs.Key.{x_power, temp, next_word, expanded, key_expansion}
use Rattle.aes.specs.Cipher.{rounds, cipher, aes}
use Rattle.ghash.specs.Ghash.{add_if, bit, halved, GHASH}
use Rattle.ghash.specs.Input.{padded, lengths, hash_input}
use Rattle.gcm.specs.Gcm.{add_bytes, hash_subkey, encrypted, tag}
use Rattle.gcm_examples.proofs.Shared.{IV, P, A, joined, text_is, carried, value, hash_is, tag_is}

K : List ℕ
K = bytes 32 0xfeffe9928665731c6d6a8f9467308308feffe9928665731c6d6a8f9467308308

C : List ℕ
C = bytes 60 0x522dc1f099567d07f47f37a32a84427d643a8cdcbfe5c0c97598a2bd2555d1aa8cb08e48590dbb3da7b08b1056828838c5f61e6393ba7a0abcc9f662

-- ---- the blocks under AES

w : List ℕ
w = bytes 240 0xfeffe9928665731c6d6a8f9467308308feffe9928665731c6d6a8f9467308308fb13d9177d76aa0b101c259f772ca6970b8ecd1a8debbe06e081319287b1b29a312461004c52cb0b5c4eee942b624803fa249f6177cf2167974e10f510ffa26f231ec9ca6f4c02c13302ec551860a45657f4d6d0203bf7b7b775e742a78a452d557011963a3c1357093eff02115e5b54d5aceff0f597184742e2ff05e568ba280084254f3ab836183386c91a22d8924e46cda0dfb35ab898f1b8479d14d0fdb550d0f0b56a68c6ad59ee0fb77b369df967c8fe46d49246de252a014331fafcf63d60b272570874df0ee67b6875d0e691

schedule : key_expansion 8 K ≡ w
unfolding xtime times ◌•◌ power inverse turned affine sub_byte x_power temp next_word expanded key_expansion bytes K w
schedule = refl

under : (block : List ℕ) → aes K block ≡ cipher 14 w block
unfolding aes bytes K
under block = ap (λ (l : List ℕ). cipher 14 l block) schedule

subkey : aes K (replicate 16 0) ≡ bytes 16 0xacbef20579b4b8ebce889bac8732dad7
unfolding xtime times ◌•◌ power inverse turned affine sub_byte sub_bytes mix_column mix_columns add_round_key rounds cipher bytes w
subkey = under (replicate 16 0)

counter_1 : aes K (IV ++ bytes 4 1) ≡ bytes 16 0xfd2caa16a5832e76aa132c1453eeda7e
unfolding xtime times ◌•◌ power inverse turned affine sub_byte sub_bytes mix_column mix_columns add_round_key rounds cipher bytes IV w
counter_1 = under (IV ++ bytes 4 1)

counter_2 : aes K (IV ++ bytes 4 2) ≡ bytes 16 0x8b1cf3d561d27be251263e66857164e7
unfolding xtime times ◌•◌ power inverse turned affine sub_byte sub_bytes mix_column mix_columns add_round_key rounds cipher bytes IV w
counter_2 = under (IV ++ bytes 4 2)

counter_3 : aes K (IV ++ bytes 4 3) ≡ bytes 16 0xe29d258faad137135bd49280af645bd8
unfolding xtime times ◌•◌ power inverse turned affine sub_byte sub_bytes mix_column mix_columns add_round_key rounds cipher bytes IV w
counter_3 = under (IV ++ bytes 4 3)

counter_4 : aes K (IV ++ bytes 4 4) ≡ bytes 16 0x908c82ddcc65b26e887f85341f243d1d
unfolding xtime times ◌•◌ power inverse turned affine sub_byte sub_bytes mix_column mix_columns add_round_key rounds cipher bytes IV w
counter_4 = under (IV ++ bytes 4 4)

counter_5 : aes K (IV ++ bytes 4 5) ≡ bytes 16 0x749cf39639b79c5d06aa8d5b932fc7f8
unfolding xtime times ◌•◌ power inverse turned affine sub_byte sub_bytes mix_column mix_columns add_round_key rounds cipher bytes IV w
counter_5 = under (IV ++ bytes 4 5)

-- ---- text and tag

text : encrypted K IV P ≡ C
unfolding joined add_bytes part bytes P C
text = text_is K _ _ _ _ counter_2 counter_3 counter_4 counter_5

hash : GHASH (hash_subkey (aes K)) (hash_input A C) ≡ 0x8bd0c4d8aacd391e67cca447e8c38f65
unfolding value carried add_if bit halved hash_input padded lengths number bytes A C
hash = hash_is K C _ subkey

tagged : tag K IV A C ≡ bytes 16 0x76fc6ece0f4e1768cddf8853bb2d551b
unfolding add_bytes bytes
tagged = tag_is K C _ _ hash counter_1
