-- Items of one message with something added, left out or moved, and whether they
-- bring a key to namespace 1, tag 0. KeyUID AA, a key of 32 bytes of zeros.
-- Assumes nothing.
use Rattle.std.specs.Prelude.{◌≡◌, Bool, true, not, ◌&&◌, List, [], ◌∷◌, ℕ}
use Rattle.cells.specs.Cells.{zeros}
use Rattle.rules.specs.Numbers.{key_size}
use Rattle.rules.specs.Ttlv.{Items, end, value, structure, Text, ByteString}
use Rattle.rules.specs.Kmip.{Attribute, AttributeName, AttributeValue, Attributes, BatchCount, BatchItem, CryptographicAlgorithm}
use Rattle.rules.specs.Kmip.{CryptographicLength, CryptographicParameters, KeyBlock, KeyFormatType, KeyMaterial}
use Rattle.rules.specs.Kmip.{KeyRoleType, KeyValue, ObjectType, Operation, ProtocolVersion, ProtocolVersionMajor, ProtocolVersionMinor}
use Rattle.rules.specs.Kmip.{RequestHeader, RequestMessage, RequestPayload, SymmetricKey}
use Rattle.rules.specs.Kmip.{UniqueIdentifier, VendorIdentification, Import, a_symmetric_key, DEK, AES, Raw, vendor_name, namespace_name, tag_name}
use Rattle.rules.specs.Kmip.{uid_name, is_request}
use Rattle.rules.specs.KmipMessage.{integer, enumeration, attribute, header_item}

-- ------------------------------------------------------------------------
-- A message by the members of its structures

-- tags of items that the profile does not name
abbrev pub Link : ℕ
Link = 0x42004A

abbrev pub UniqueBatchItemID : ℕ
UniqueBatchItemID = 0x420093

abbrev pub CryptographicUsageMask : ℕ
CryptographicUsageMask = 0x42002C

abbrev pub TripleDES : ℕ
TripleDES = 0x02

abbrev pub KEK : ℕ
KEK = 0x0B

abbrev pub Create : ℕ
Create = 0x01

abbrev pub SecretData : ℕ
SecretData = 0x07

abbrev pub Opaque : ℕ
Opaque = 0x02

abbrev pub uid : Items → Items
uid behind = value UniqueIdentifier Text (0xAA ∷ []) behind

abbrev pub role : Items → Items
role behind = enumeration KeyRoleType DEK behind

abbrev pub aes : Items → Items
aes behind = enumeration CryptographicAlgorithm AES behind

abbrev pub bits : Items → Items
bits behind = integer CryptographicLength 256 behind

abbrev pub parameters_item : Items → Items → Items
parameters_item members behind = structure CryptographicParameters members behind

-- the two Attributes
abbrev pub places : Items → Items
places behind = attribute namespace_name 1 (attribute tag_name 0 behind)

abbrev pub format : Items → Items
format behind = enumeration KeyFormatType Raw behind

abbrev pub material : Items → Items
material behind = value KeyMaterial ByteString (zeros key_size) behind

abbrev pub key_item : Items → Items
key_item behind = structure KeyValue (material end) behind

-- what is behind a payload's Unique Identifier, by its type, the members of its Attributes and of its Key Block
abbrev pub object_of : ℕ → Items → Items → Items
object_of type attributes block =
    enumeration ObjectType type (structure Attributes attributes (structure SymmetricKey (structure KeyBlock block end) end))

abbrev pub object : Items → Items → Items
object attributes block = object_of a_symmetric_key attributes block

abbrev pub payload : Items → Items → Items → Items
payload attributes block behind = structure RequestPayload (uid (object attributes block)) behind

-- a message by the members of its Batch Item, and what is behind that
abbrev pub sent : Items → Items → Items
sent batch behind = structure RequestMessage (header_item (structure BatchItem batch behind)) end

abbrev pub imports : Items → Items
imports behind = enumeration Operation Import behind

-- by the members of its Attributes and of its Key Block; and the plain one
abbrev pub with : Items → Items → Items
with attributes block = sent (imports (payload attributes block end)) end

abbrev pub plain_attributes : Items
plain_attributes = parameters_item (role (aes (bits end))) (places end)

abbrev pub plain_block : Items
plain_block = format (key_item end)

abbrev pub plain_payload : Items → Items
plain_payload behind = payload plain_attributes plain_block behind

-- a message by its header's major version and batch count
abbrev pub headed : ℕ → ℕ → Items
headed major count =
    structure RequestMessage
    (structure RequestHeader
    (structure ProtocolVersion (integer ProtocolVersionMajor major (integer ProtocolVersionMinor 0 end)) (integer BatchCount count end))
    (structure BatchItem (imports (plain_payload end)) end))
    end

-- an Attribute by its members
abbrev pub vendor : Items → Items
vendor behind = value VendorIdentification Text vendor_name behind

abbrev pub name : List ℕ → Items → Items
name text behind = value AttributeName Text text behind

abbrev pub number : ℕ → Items → Items
number n behind = integer AttributeValue n behind

abbrev pub attribute_by : Items → Items → Items
attribute_by members behind = structure Attribute members behind

-- ------------------------------------------------------------------------
-- Those that bring the key

unfoldable pub taken : List Items
taken =
    with plain_attributes plain_block
    -- a later version; a batch item may have an identifier of its own
    ∷ headed 3 1
    ∷ sent (imports (value UniqueBatchItemID ByteString (1 ∷ []) (plain_payload end))) end
    -- algorithm and length stand in the parameters or in the Key Block, or in both
    ∷ with (parameters_item (role end) (places end)) (format (key_item (aes (bits end))))
    ∷ with (parameters_item (bits (role end)) (places end)) (aes (key_item (format end)))
    ∷ with plain_attributes (bits (aes (key_item (format end))))
    -- and may stand among the Attributes besides
    ∷ with (aes (bits plain_attributes)) plain_block
    -- a usage mask is passed over
    ∷ with (integer CryptographicUsageMask 0x0C plain_attributes) plain_block
    -- others are passed over among Attributes and parameters
    ∷ with (structure Link end plain_attributes) plain_block
    ∷ with (parameters_item (value Link Text [] (role (aes (bits end)))) (places (attribute vendor_name 7 end))) plain_block
    -- an Attribute's members stand in any order
    ∷ with (parameters_item (role (aes (bits end))) (attribute_by (number 0 (name tag_name (vendor end))) (attribute namespace_name 1 end))) plain_block
    ∷ []

-- ------------------------------------------------------------------------
-- Those that bring nothing

unfoldable pub not_taken : List Items
not_taken =
    -- something else was asked, or something stands behind the message
    sent (enumeration Operation Create (plain_payload end)) end
    ∷ headed 1 1
    ∷ headed 2 2
    ∷ structure RequestMessage (header_item (structure BatchItem (imports (plain_payload end)) end)) (structure Link end end)
    -- another object, another form, another length
    ∷ sent (imports (structure RequestPayload (uid (object_of SecretData plain_attributes plain_block)) end)) end
    ∷ with plain_attributes (enumeration KeyFormatType Opaque (key_item end))
    ∷ with plain_attributes (format (structure KeyValue (value KeyMaterial ByteString (zeros 31) end) end))
    ∷ with plain_attributes (format (structure KeyValue (value KeyMaterial ByteString (zeros 33) end) end))
    -- another cipher
    ∷ with (parameters_item (role (enumeration CryptographicAlgorithm TripleDES (bits end))) (places end)) (format (key_item (aes end)))
    -- none where it has to stand
    ∷ with (aes (parameters_item (role (bits end)) (places end))) plain_block
    ∷ with (parameters_item (role (bits end)) (places end)) plain_block
    ∷ with (parameters_item (role (aes end)) (places end)) plain_block
    -- another role
    ∷ with (parameters_item (enumeration KeyRoleType KEK (aes (bits end))) (places end)) plain_block
    -- another place first, or none
    ∷ with (parameters_item (role (aes (bits end))) (attribute namespace_name 2 (places end))) plain_block
    ∷ with (parameters_item (role (aes (bits end))) (attribute namespace_name 1 end)) plain_block
    -- an Attribute of another vendor, or UID
    ∷ with (parameters_item (role (aes (bits end)))
    (attribute_by (value VendorIdentification Text [] (name vendor_name (number 0 end))) (places end))) plain_block
    ∷ with (parameters_item (role (aes (bits end))) (attribute uid_name 0 (places end))) plain_block
    ∷ []

unfoldable pub all_bring : List Items → Bool
all_bring [] = true
all_bring (items ∷ more) = is_request 1 0 items && all_bring more

unfoldable pub none_brings : List Items → Bool
none_brings [] = true
none_brings (items ∷ more) = not (is_request 1 0 items) && none_brings more

pub record KmipItemsRight : Type 0 where
  pub all_taken : all_bring taken ≡ true
  pub none_taken : none_brings not_taken ≡ true
