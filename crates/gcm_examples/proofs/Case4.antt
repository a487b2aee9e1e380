-- Test case 4: AES-128. Assumes nothing.
use mathlib.Core.List.{List, ◌++◌}
use mathlib.Core.Path.{◌≡◌, refl, ap}
use Prim.Native.Nat.{ℕ}
use lib.ListN.{replicate}
use Rattle.octets.specs.Octets.{part, number, bytes}
use Rattle.sbox.specs.Field.{xtime, times, ◌•◌, power, inverse, turned, affine, sub_byte}
use Rattle.aes.specs.State.{sub_bytes, mix_column, mix_columns, add_round_key}
use Rattle.aes_key.specs.Key.{x_power, temp, next_word, expanded, key_expansion}
use Rattle.aes.specs.Cipher.{rounds, cipher, aes}
use Rattle.ghash.specs.Ghash.{add_if, bit, halved, GHASH}
use Rattle.ghash.specs.Input.{padded, lengths, hash_input}
use Rattle.gcm.specs.Gcm.{add_bytes, hash_subkey, encrypted, tag}
use Rattle.gcm_examples.proofs.Shared.{IV, P, A, joined, text_is, carried, value, hash_is, tag_is}

K : List ℕ
K = bytes 16 0xfeffe9928665731c6d6a8f9467308308

C : List ℕ
C = bytes 60 0x42831ec2217774244b7221b784d0d49ce3aa212f2c02a4e035c17e2329aca12e21d514b25466931c7d8f6a5aac84aa051ba30b396a0aac973d58e091

-- ---- the blocks under AES

w : List ℕ
w = bytes 176 0xfeffe9928665731c6d6a8f9467308308fb13d9177d76aa0b101c259f772ca697883751e2f541fbe9e55dde76927178e12f8ba9addaca52443f978c32ade6f4d3a934cf3873fe9d7c4c69114ee18fe59dcaed91c0b9130cbcf57a1df214f5f86f0cac393ab5bf358640c528745430d01b48dc961afd63a39cbda68be8e9965bf358e59b04a58638981820b370f1b6e8830d7e77a5a8f84f3db0d8fc4d416e14cea484fc260c7cb31bbca44f56fdca5b98

schedule : key_expansion 4 K ≡ w
unfolding xtime times ◌•◌ power inverse turned affine sub_byte x_power temp next_word expanded key_expansion bytes K w
schedule = refl

under : (block : List ℕ) → aes K block ≡ cipher 10 w block
unfolding aes bytes K
under block = ap (λ (l : List ℕ). cipher 10 l block) schedule

subkey : aes K (replicate 16 0) ≡ bytes 16 0xb83b533708bf535d0aa6e52980d53b78
unfolding xtime times ◌•◌ power inverse turned affine sub_byte sub_bytes mix_column mix_columns add_round_key rounds cipher bytes w
subkey = under (replicate 16 0)

counter_1 : aes K (IV ++ bytes 4 1) ≡ bytes 16 0x3247184b3c4f69a44dbcd22887bbb418
unfolding xtime times ◌•◌ power inverse turned affine sub_byte sub_bytes mix_column mix_columns add_round_key rounds cipher bytes IV w
counter_1 = under (IV ++ bytes 4 1)

counter_2 : aes K (IV ++ bytes 4 2) ≡ bytes 16 0x9bb22ce7d9f372c1ee2b28722b25f206
unfolding xtime times ◌•◌ power inverse turned affine sub_byte sub_bytes mix_column mix_columns add_round_key rounds cipher bytes IV w
counter_2 = under (IV ++ bytes 4 2)

counter_3 : aes K (IV ++ bytes 4 3) ≡ bytes 16 0x650d887c3936533a1b8d4e1ea39d2b5c
unfolding xtime times ◌•◌ power inverse turned affine sub_byte sub_bytes mix_column mix_columns add_round_key rounds cipher bytes IV w
counter_3 = under (IV ++ bytes 4 3)

counter_4 : aes K (IV ++ bytes 4 4) ≡ bytes 16 0x3de91827c10e9a4f5240647ee5221f20
unfolding xtime times ◌•◌ power inverse turned affine sub_byte sub_bytes mix_column mix_columns add_round_key rounds cipher bytes IV w
counter_4 = under (IV ++ bytes 4 4)

counter_5 : aes K (IV ++ bytes 4 5) ≡ bytes 16 0xaac9e6ccc0074ac0873b9ba85d908bd0
unfolding xtime times ◌•◌ power inverse turned affine sub_byte sub_bytes mix_column mix_columns add_round_key rounds cipher bytes IV w
counter_5 = under (IV ++ bytes 4 5)

-- ---- text and tag

text : encrypted K IV P ≡ C
unfolding joined add_bytes part bytes P C
text = text_is K _ _ _ _ counter_2 counter_3 counter_4 counter_5

hash : GHASH (hash_subkey (aes K)) (hash_input A C) ≡ 0x698e57f70e6ecc7fd9463b7260a9ae5f
unfolding value carried add_if bit halved hash_input padded lengths number bytes A C
hash = hash_is K C _ subkey

tagged : tag K IV A C ≡ bytes 16 0x5bc94fbc3221a5db94fae95ae7121a47
unfolding add_bytes bytes
tagged = tag_is K C _ _ hash counter_1
