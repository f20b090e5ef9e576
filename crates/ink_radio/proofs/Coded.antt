-- Packets that are kept as bytes.
use Rattle.ink_radio.proofs.Common.{◌≡◌, ℕ, zero, suc, List, [], ◌∷◌, ◌++◌, map, slice_get, Option, Some, None, unwrap_or, option_map, refl, sym, ap, ap₂, subst, ◌∙◌}
use Rattle.std.specs.List.{AllByRecursion}
use Rattle.std.proofs.lemmas.List.{map-append}
use Rattle.std.proofs.lemmas.Option.{slice_get-map}
use Rattle.ink_radio.specs.declared.packet.Packet.{Packet}
use Rattle.ink_radio.specs.declared.packet.Packet.TheVariants.{Ack}
use Rattle.ink_radio.specs.Packets.{IsPacket, packet_bytes}
use Rattle.ink_radio.specs.kept.Decoding.{packet_in, packet_of, IsCoded}
use Rattle.ink_radio.proofs.ReadBack.{packet_again}

-- one more of a list whose elements all have a property
pub all_push : {X : Type 0} (P : X → Type 0) (xs : List X) (x : X) → AllByRecursion P xs → P x → AllByRecursion P (xs ++ x ∷ [])
all_push P [] x h p = (p, tt)
all_push P (y ∷ xs) x h p = (h.0, all_push P xs x h.1 p)

-- an element of such a list
pub all_at : {X : Type 0} (P : X → Type 0) (xs : List X) (n : ℕ) (x : X) → AllByRecursion P xs → slice_get xs n ≡ Some x → P x
all_at P [] n x h e = absurd cc
all_at P (y ∷ xs) zero x h e = let same : y ≡ x = cc in subst P same h.0
all_at P (y ∷ xs) (suc n) x h e = all_at P xs n x h.1 e

-- what follows from the property
pub all_then : {X : Type 0} (P Q : X → Type 0) (xs : List X) → ((x : X) → P x → Q x) → AllByRecursion P xs → AllByRecursion Q xs
all_then P Q [] f h = tt
all_then P Q (x ∷ xs) f h = (f x h.0, all_then P Q xs f h.1)

-- the packet of a packet's bytes
pub packet_of_bytes : (packet : Packet) → IsPacket packet → packet_of (packet_bytes packet) ≡ packet
packet_of_bytes packet is = ap (λ (o : Option Packet). unwrap_or o (Ack 0)) (packet_again packet is)

pub coded : (packet : Packet) (bytes : List ℕ) → IsPacket packet → bytes ≡ packet_bytes packet → IsCoded bytes
coded packet bytes is e =
    let same : packet_of bytes ≡ packet = ap packet_of e ∙ packet_of_bytes packet is in
    record { packet = subst IsPacket (sym same) is; same = e ∙ ap packet_bytes (sym same) }

-- bytes of a packet are read
pub coded_read : (bytes : List ℕ) → IsCoded bytes → packet_in bytes ≡ Some (packet_of bytes)
coded_read bytes is = ap packet_in is.same ∙ packet_again (packet_of bytes) is.packet

pub coded_push : (packets : List (List ℕ)) (packet : Packet) (bytes : List ℕ) → IsPacket packet → bytes ≡ packet_bytes packet
    → map packet_of (packets ++ bytes ∷ []) ≡ map packet_of packets ++ packet ∷ []
coded_push packets packet bytes is e = map-append packet_of packets (bytes ∷ []) ∙ ap (λ (p : Packet). map packet_of packets ++ p ∷ []) (ap packet_of e ∙ packet_of_bytes packet is)

-- the packet of a number, from its bytes
pub coded_at : (packets : List (List ℕ)) (n : ℕ) (bytes : List ℕ) → AllByRecursion IsCoded packets → slice_get packets n ≡ Some bytes → packet_in bytes ≡ slice_get (map packet_of packets) n
coded_at packets n bytes all e =
    coded_read bytes (all_at IsCoded packets n bytes all e) ∙ sym (slice_get-map packet_of packets n ∙ ap (option_map packet_of) e)

pub coded_past : (packets : List (List ℕ)) (n : ℕ) → slice_get packets n ≡ None → None ≡ slice_get (map packet_of packets) n
coded_past packets n e = sym (slice_get-map packet_of packets n ∙ ap (option_map packet_of) e)

-- all bytes, of their packets
pub coded_all : (packets : List (List ℕ)) → AllByRecursion IsCoded packets → packets ≡ map packet_bytes (map packet_of packets)
coded_all [] all = refl
coded_all (bytes ∷ packets) all = ap₂ (λ (b : List ℕ) (bs : List (List ℕ)). b ∷ bs) all.0.same (coded_all packets all.1)
