-- What a host finds in a discovery response, as numbers at the places that
-- include/tuffaleen.h names: 001's fields in their order, and before each
-- feature's whether it was found. An absent feature's numbers are 0.
-- Assumes nothing.
use Rattle.std.specs.Prelude.{List, [], ◌∷◌, ◌++◌, ℕ, ◌+◌, length, drop, ltb, Option, Some, None, Result, Ok, Err}
use Rattle.cells.specs.Cells.{zeros}
use Rattle.rules.specs.declared.DiscoveryHeader.{DiscoveryHeader}
use Rattle.rules.specs.declared.Tper.{Tper}
use Rattle.rules.specs.declared.KeyPerIo.{KeyPerIo}
use Rattle.rules.specs.declared.Discovered.{Discovered}
use Rattle.rules.specs.declared.Granted.TheVariants.{Done}
use Rattle.rules.specs.declared.Refusal.{Refusal}
use Rattle.rules.specs.Numbers.{vendor_specific_size}
use Rattle.rules.specs.Checks.{◌when◌, judged}
use Rattle.rules.specs.Answers.{number, 07·0F}
use Rattle.rules.specs.Discovering.{discovered}

abbrev pub header_places : ℕ
header_places = 1 + vendor_specific_size

abbrev pub tper_places : ℕ
tper_places = 8

abbrev pub key_per_io_places : ℕ
key_per_io_places = 31

abbrev pub fields_size : ℕ
fields_size = header_places + tper_places + key_per_io_places

-- a byte a place
abbrev pub header_numbers : DiscoveryHeader → List ℕ
header_numbers h = h.data_structure_revision ∷ h.vendor_specific

unfoldable pub tper_numbers : Option Tper → List ℕ
tper_numbers None = zeros tper_places
tper_numbers (Some t) =
    1
    ∷ t.version
    ∷ t.com_id_mgmt_supported
    ∷ t.streaming_supported
    ∷ t.buffer_mgmt_supported
    ∷ t.ack_nack_supported
    ∷ t.async_supported
    ∷ t.sync_supported
    ∷ []

unfoldable pub found_numbers : KeyPerIo → List ℕ
found_numbers k =
    1
    ∷ k.feature_descriptor_version
    ∷ k.ssc_minor_version
    ∷ k.protocol_01_base_com_id
    ∷ k.protocol_01_number_of_com_ids
    ∷ k.protocol_03_base_com_id
    ∷ k.protocol_03_number_of_com_ids
    ∷ k.initial_pin_indicator
    ∷ k.behavior_of_pin_upon_revert
    ∷ k.number_of_admin_authorities
    ∷ k.replay_protection_enabled
    ∷ k.replay_protection_supported
    ∷ k.incorrect_key_detection_supported
    ∷ k.shared_tweak_key_required
    ∷ k.scope
    ∷ k.enabled
    ∷ k.maximum_key_uid_length
    ∷ k.kmip_key_injection_supported
    ∷ k.rsa_oaep_supported
    ∷ k.aes_gcm_supported
    ∷ k.aes_kw_supported
    ∷ k.aes_256_wrapping_key_supported
    ∷ k.rsa4k_wrapping_key_supported
    ∷ k.rsa3k_wrapping_key_supported
    ∷ k.rsa2k_wrapping_key_supported
    ∷ k.pki_kek_transport_supported
    ∷ k.plaintext_kek_provisioning_supported
    ∷ k.number_of_key_encryption_keys
    ∷ k.total_number_of_key_tags
    ∷ k.maximum_key_tags_per_namespace
    ∷ k.nonce_length
    ∷ []

abbrev pub key_per_io_numbers : Option KeyPerIo → List ℕ
key_per_io_numbers None = zeros key_per_io_places
key_per_io_numbers (Some k) = found_numbers k

abbrev pub numbers_of : Discovered → List ℕ
numbers_of o = header_numbers o.header ++ (tper_numbers o.tper ++ key_per_io_numbers o.key_per_io)

-- ------------------------------------------------------------------------
-- All that a call from C leaves

pub record CDiscovery : Type 0 where
  pub number : ℕ
  pub fields : List ℕ

-- a refusal, and the fields stay; else the numbers stand at their front
abbrev pub told : List ℕ → Result Discovered Refusal → CDiscovery
told fields (Err r) = record { number = number (Err r); fields = fields }
told fields (Ok o) = record { number = number (Ok Done); fields = numbers_of o ++ drop fields_size fields }

-- 07 0F for fewer places, then 07 16
unfoldable pub c_discovery : List ℕ → List ℕ → CDiscovery
c_discovery bytes fields = told fields (judged (07·0F when ltb (length fields) fields_size ∷ []) Err (discovered bytes))
