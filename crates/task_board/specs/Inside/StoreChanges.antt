-- The requests that change the store, in one.
use Rattle.std.specs.Prelude.{◌≡◌, ℕ, ◌<◌, List, [], length, Bool, true, false, string_bytes, None, Some}
use Rattle.std.specs.Arc.{arc_value}
use Rattle.content_leases.specs.Limits.{max_members}
use Rattle.content_leases.specs.Digests.{digest_of}
use Rattle.content_leases.specs.StoreState.{StoreState, content_in, lease_in, is_among, with_content, without_content, with_lease, with_member, without_lease, unheld, collected}
use Rattle.content_leases.specs.StoreValue.{StoreValue}
use Rattle.content_leases.specs.Refusals.{Refusals, first_refusal, put_refusals, remove_refusals, lease_create_refusals, lease_add_refusals, lease_delete_refusals}
use Rattle.task_board.specs.declared.store_change.StoreChange.{StoreChange}
use Rattle.task_board.specs.declared.store_change.StoreChange.TheVariants as change
use Rattle.task_requests.specs.declared.request.Request.{Request}
use Rattle.task_requests.specs.declared.request.Request.TheVariants as request
use Rattle.task_requests.specs.declared.request.Reply.{Reply}
use Rattle.task_requests.specs.declared.request.Reply.TheVariants as reply
use Rattle.task_board.specs.BoardState.{BoardState, used_by}
use Rattle.task_board.specs.BoardValue.{Room}
use Rattle.task_board.specs.Texts.{IsAssembled}

abbrev pub store_request : StoreChange → Request
store_request (change.Put key bytes digest) = request.Put (arc_value bytes)
store_request (change.Remove digest) = request.Remove digest
store_request (change.LeaseCreate key members id) = request.LeaseCreate id
store_request (change.LeaseAdd key digest id) = request.LeaseAdd digest id
store_request (change.LeaseDelete id) = request.LeaseDelete id
store_request (change.Gc used removed) = request.Gc

-- the change is made for this request: it is the request's own, or stores the bytes of a text
abbrev pub IsMadeFor : Request → StoreChange → Type 0
IsMadeFor (request.PutText text) (change.Put key bytes digest) = IsAssembled text (arc_value bytes)
IsMadeFor (request.PutText text) other = ⊥
IsMadeFor r c = r ≡ store_request c

abbrev pub store_reply : StoreChange → Reply
store_reply (change.Put key bytes digest) = reply.Put digest (length (arc_value bytes))
store_reply (change.Remove digest) = reply.Remove digest
store_reply (change.LeaseCreate key members id) = reply.LeaseCreate id
store_reply (change.LeaseAdd key digest id) = reply.LeaseAdd digest id
store_reply (change.LeaseDelete id) = reply.LeaseDelete id
store_reply (change.Gc used removed) = reply.Gc removed

abbrev pub store_after : StoreState → StoreChange → StoreState
store_after s (change.Put key bytes digest) = with_content s (arc_value bytes)
store_after s (change.Remove digest) = without_content s digest
store_after s (change.LeaseCreate key members id) = with_lease s id
store_after s (change.LeaseAdd key digest id) = with_member s digest id
store_after s (change.LeaseDelete id) = without_lease s id
store_after s (change.Gc used removed) = collected used s

abbrev pub store_refusals : BoardState → StoreChange → Refusals
store_refusals s (change.Put key bytes digest) = put_refusals s.store (arc_value bytes)
store_refusals s (change.Remove digest) = remove_refusals (used_by s.tasks) s.store digest
store_refusals s (change.LeaseCreate key members id) = lease_create_refusals s.store id
store_refusals s (change.LeaseAdd key digest id) = lease_add_refusals s.store digest id
store_refusals s (change.LeaseDelete id) = lease_delete_refusals s.store id
store_refusals s (change.Gc used removed) = []

-- what is stored and answered is that of the request, and there is room for it
abbrev pub IsFitted : BoardState → Room → StoreChange → Type 0
IsFitted s room (change.Put key bytes digest) =
    (string_bytes key ≡ digest_of (arc_value bytes)) × (digest ≡ digest_of (arc_value bytes))
    × (0 < room.contents)
IsFitted s room (change.LeaseCreate key members id) =
    (string_bytes key ≡ id) × (members ≡ []) × (0 < room.leases)
IsFitted s room (change.LeaseAdd key digest id) = string_bytes key ≡ digest
IsFitted s room (change.Gc used removed) =
    (used ≡ used_by s.tasks) × (removed ≡ unheld (used_by s.tasks) s.store)
IsFitted s room other = Unit {0}

-- a change of the store that may be made
pub record StorePrepared (s : BoardState) (room : Room) (c : StoreChange) : Type 0 where
  pub accepted : first_refusal (store_refusals s c) ≡ None
  pub fitted : IsFitted s room c

-- the store can take the change
abbrev pub CanTake : StoreValue → StoreChange → Type 0
CanTake b (change.Put key bytes digest) =
    (0 < b.content_room) × (string_bytes key ≡ digest_of (arc_value bytes))
    × (content_in b.state.contents (digest_of (arc_value bytes)) ≡ None)
CanTake b (change.LeaseCreate key members id) =
    (0 < b.lease_room) × (string_bytes key ≡ id) × (members ≡ [])
    × (lease_in b.state.leases id ≡ None)
CanTake b (change.LeaseAdd key digest id) = (string_bytes key ≡ digest)
    × (ms : List (List ℕ)) × (lease_in b.state.leases id ≡ Some ms) × (is_among digest ms ≡ false)
    × (length ms < max_members)
CanTake b other = Unit {0}

-- contents may go with it
abbrev pub removes : StoreChange → Bool
removes (change.Remove digest) = true
removes (change.Gc used removed) = true
removes other = false
