-- A payload, by what was found of its members one after the other.
-- Assumes nothing.
use mathlib.Core.Path.{◌≡◌, refl, sym, ap, ◌∙◌}
use mathlib.Core.Bool.{Bool, true, false, ◌&&◌}
use mathlib.Core.List.{List, [], ◌∷◌}
use Prim.Native.Nat.{ℕ}
use Rattle.rules.specs.Slots.{Contents}
use Rattle.rules.specs.Ttlv.{Items, value, structure, Enumeration, Text}
use Rattle.rules.specs.Kmip.{Want, from, behind_of, members_of, bytes_of, in_order, has, ◌is_a◌with◌, ◌holds◌, is, any, value_then, structure_then}
use Rattle.rules.specs.Kmip.{attributes, key_block, request_payload, aes256, parameters_in, block_in, payload_good, brought_by, a_symmetric_key}
use Rattle.rules.specs.Kmip.{Attributes, CryptographicParameters, KeyBlock, KeyMaterial, KeyValue, ObjectType, SymmetricKey, UniqueIdentifier}
use Rattle.kmip.proofs.RowLaws.{value_missed, value_met, structure_missed, structure_met, structure_failed, structure_alone}

module _ (ns tag : ℕ) (items : Items) where
  abbrev object : Want
  object = ObjectType is_a Enumeration with is a_symmetric_key

  abbrev of_slot : Want
  of_slot = Attributes holds attributes ns tag

  abbrev good_key : Items → Bool
  good_key members = has (KeyBlock holds key_block) members

  abbrev key : Want
  key = SymmetricKey holds has (KeyBlock holds key_block)

  bad : in_order (request_payload ns tag) items ≡ false → payload_good ns tag items ≡ false
  bad rows = ap (λ b. b && aes256 (parameters_in items) (block_in items)) rows

  pub no_uid : ((good : List ℕ → Bool) (more : Items → Bool) → value_then Text good more (from UniqueIdentifier items) ≡ false)
      → payload_good ns tag items ≡ false
  no_uid missed = bad (value_missed UniqueIdentifier Text any items missed (object ∷ of_slot ∷ key ∷ []))

  module _ (uid : List ℕ) (rest1 : Items) (e1 : from UniqueIdentifier items ≡ value UniqueIdentifier Text uid rest1) where
    rows1 : in_order (request_payload ns tag) items ≡ in_order (object ∷ of_slot ∷ key ∷ []) rest1
    rows1 = (value_met UniqueIdentifier Text any items uid rest1 e1 refl).0 (object ∷ of_slot ∷ key ∷ [])

    pub no_object : ((wants : List Want) → in_order (object ∷ wants) rest1 ≡ false) → payload_good ns tag items ≡ false
    no_object missed = bad (rows1 ∙ missed (of_slot ∷ key ∷ []))

    module _ (rest2 : Items)
        (e2 : ((wants : List Want) → in_order (object ∷ wants) rest1 ≡ in_order wants rest2) × (behind_of (from ObjectType rest1) ≡ rest2)) where
      rows2 : in_order (request_payload ns tag) items ≡ in_order (of_slot ∷ key ∷ []) rest2
      rows2 = rows1 ∙ e2.0 (of_slot ∷ key ∷ [])

      pub no_attributes : ((good more : Items → Bool) → structure_then good more (from Attributes rest2) ≡ false) → payload_good ns tag items ≡ false
      no_attributes missed = bad (rows2 ∙ structure_missed Attributes (attributes ns tag) rest2 missed (key ∷ []))

      module _ (members rest3 : Items) (e3 : from Attributes rest2 ≡ structure Attributes members rest3) where
        pub bad_attributes : attributes ns tag members ≡ false → payload_good ns tag items ≡ false
        bad_attributes failed =
            bad (rows2 ∙ structure_failed Attributes (attributes ns tag) rest2 members rest3 e3 failed (key ∷ []))

        module _ (good3 : attributes ns tag members ≡ true) where
          rows3 : in_order (request_payload ns tag) items ≡ has key rest3
          rows3 = rows2 ∙ structure_met Attributes (attributes ns tag) rest2 members rest3 e3 good3 (key ∷ [])

          pub no_key : ((good more : Items → Bool) → structure_then good more (from SymmetricKey rest3) ≡ false) → payload_good ns tag items ≡ false
          no_key missed = bad (rows3 ∙ structure_missed SymmetricKey good_key rest3 missed [])

          module _ (inner behind : Items) (e4 : from SymmetricKey rest3 ≡ structure SymmetricKey inner behind) where
            rows4 : in_order (request_payload ns tag) items ≡ has (KeyBlock holds key_block) inner
            rows4 = rows3 ∙ sym (structure_alone SymmetricKey good_key rest3 inner behind e4)

            pub bad_key : has (KeyBlock holds key_block) inner ≡ false → payload_good ns tag items ≡ false
            bad_key failed = bad (rows4 ∙ failed)

            module _ (good4 : has (KeyBlock holds key_block) inner ≡ true) where
              abbrev block : Items
              block = members_of (from KeyBlock inner)

              behind_object : behind_of (from ObjectType (behind_of (from UniqueIdentifier items))) ≡ rest2
              behind_object = ap (λ i. behind_of (from ObjectType (behind_of i))) e1 ∙ e2.1

              parameters_are : parameters_in items ≡ members_of (from CryptographicParameters members)
              parameters_are =
                  ap (λ i. members_of (from CryptographicParameters (members_of (from Attributes i)))) behind_object
                  ∙ ap (λ i. members_of (from CryptographicParameters (members_of i))) e3

              block_is : block_in items ≡ block
              block_is =
                  ap (λ i. members_of (from KeyBlock (members_of (from SymmetricKey (behind_of (from Attributes i)))))) behind_object
                  ∙ ap (λ i. members_of (from KeyBlock (members_of (from SymmetricKey (behind_of i))))) e3
                  ∙ ap (λ i. members_of (from KeyBlock (members_of i))) e4

              pub payload_is : aes256 (members_of (from CryptographicParameters members)) block ≡ payload_good ns tag items
              payload_is =
                  sym (ap (λ b. b && aes256 (parameters_in items) (block_in items)) (rows4 ∙ good4)
                  ∙ ap (λ i. aes256 i (block_in items)) parameters_are
                  ∙ ap (aes256 (members_of (from CryptographicParameters members))) block_is)

              abbrev contents : Items → Items → Contents
              contents first b = record { uid = bytes_of first; key = bytes_of (from KeyMaterial (members_of (from KeyValue b))) }

              pub brought_is : record { uid = uid; key = bytes_of (from KeyMaterial (members_of (from KeyValue block))) } ≡ brought_by items
              brought_is = sym (ap (λ i. contents i (block_in items)) e1 ∙ ap (contents (value UniqueIdentifier Text uid rest1)) block_is)
