-- An office may go to another thread, as its disk may; and then threads may share a handle.
use denote.RattleType.{RattleType}
use denote.Param.Send.{IsSend, IsSync, sendable, view_send}
use Rattle.std.proofs.Crossing.{crosses}
use Rattle.disk.specs.declared.disk.Disk.{Ghosts as DiskGhosts}
use Rattle.office.specs.declared.naming.Naming.{Ghosts as NamingGhosts}
use Rattle.roadnet.proofs.networks.Network.TheSendSync as Networks
use Rattle.roadnet.proofs.groups.Group.TheSendSync as Groups
use Rattle.snapshot.proofs.groups.Snapshot.TheSendSync as Snapshots
use Rattle.store.proofs.paged.state.Paged.TheSendSync as Pages
use Rattle.history.proofs.histories.History.TheSendSync as Histories
use Rattle.published.proofs.publishers.Publisher.TheSendSync as Publishers
use Rattle.rows.proofs.sights.Sight.TheSendSync as Sights
use Rattle.store.specs.contracts.stores.store.Store as Store
use Rattle.store.specs.contracts.stores.store.Store.TheInside as StoreInside
use Rattle.keeper.specs.contracts.ledger.ledgers.Ledger as Ledger
use Rattle.keeper.specs.contracts.ledger.ledgers.Ledger.TheInside as LedgerInside
use Rattle.keeper.specs.contracts.keeper.keepers.Keeper as Keeper
use Rattle.keeper.specs.contracts.keeper.keepers.Keeper.TheInside as KeeperInside
use Rattle.office.specs.contracts.offices.Office as Office
use Rattle.office.specs.contracts.offices.Office.TheInside as OfficeInside
use Rattle.desk.specs.contracts.lock.held.Held as Held
use Rattle.desk.specs.contracts.handles.shelves.Shelf as Shelf
use Rattle.desk.specs.contracts.handles.shelves.Shelf.TheInside as ShelfInside
use Rattle.deltastep.proofs.rows.distances.Distances.TheSendSync as Rows
use Rattle.deltastep.proofs.searches.workspace.Workspace.TheSendSync as Workspaces
use Rattle.history.proofs.fronts.Front.TheSendSync as Fronts
use Rattle.desk.specs.contracts.lock.shared.Shared as Shared
use Rattle.desk.specs.contracts.handles.handle.Handle as Handle

ruleset pages = (Pages.the_field_send)

store_inside : (D : RattleType) (d : DiskGhosts D.Denot) → IsSend D → IsSend (StoreInside.the_row D d)
store_inside D d s = search (pages, sendable, crosses) depth 20

store_send : (D : RattleType) (d : DiskGhosts D.Denot) → IsSend D → IsSend (Store.the_row D d)
store_send D d s = view_send _ _ _ _ _ (store_inside D d s)

ruleset entries = (store_send, Networks.the_send, Networks.the_sync, Groups.the_send)

ledger_inside : (D : RattleType) (d : DiskGhosts D.Denot) → IsSend D → IsSend (LedgerInside.the_row D d)
ledger_inside D d s = search (entries, sendable, crosses) depth 20

ledger_send : (D : RattleType) (d : DiskGhosts D.Denot) → IsSend D → IsSend (Ledger.the_row D d)
ledger_send D d s = view_send _ _ _ _ _ (ledger_inside D d s)

ruleset kept = (ledger_send, Sights.the_send, Networks.the_send, Networks.the_sync)

keeper_inside : (D : RattleType) (d : DiskGhosts D.Denot) → IsSend D → IsSend (KeeperInside.the_row D d)
keeper_inside D d s = search (kept, sendable, crosses) depth 20

keeper_send : (D : RattleType) (d : DiskGhosts D.Denot) → IsSend D → IsSend (Keeper.the_row D d)
keeper_send D d s = view_send _ _ _ _ _ (keeper_inside D d s)

ruleset held = (keeper_send, Histories.the_send, Publishers.the_send)

office_inside : (N : RattleType) (n : NamingGhosts N.Denot) (D : RattleType) (d : DiskGhosts D.Denot) → IsSend N → IsSend D → IsSend (OfficeInside.the_row N D n d)
office_inside N n D d t s = search (held, sendable, crosses) depth 20

office_send : (N : RattleType) (n : NamingGhosts N.Denot) (D : RattleType) (d : DiskGhosts D.Denot) → IsSend N → IsSend D → IsSend (Office.the_row N D n d)
office_send N n D d t s = view_send _ _ _ _ _ (office_inside N n D d t s)

held_send : (O : RattleType) → IsSend O → IsSend (Held.the_row O)
held_send O s = search (sendable, crosses) depth 20

ruleset shelved = (Rows.the_send, Workspaces.the_send, Fronts.the_send, Snapshots.the_send, Snapshots.the_sync)

shelf_inside : (N : RattleType) (n : NamingGhosts N.Denot) → IsSend N → IsSend (ShelfInside.the_row N n)
shelf_inside N n t = search (shelved, sendable, crosses) depth 20

shelf_send : (N : RattleType) (n : NamingGhosts N.Denot) → IsSend N → IsSend (Shelf.the_row N n)
shelf_send N n t = view_send _ _ _ _ _ (shelf_inside N n t)

ruleset locked = (office_send, held_send, shelf_send)

pub shared_send : (S N : RattleType) (n : NamingGhosts N.Denot) (D : RattleType) (d : DiskGhosts D.Denot) (G R : RattleType) → IsSend N → IsSend D → IsSend G → IsSend (Shared.the_row S N D G R n d)
shared_send S N n D d G R t u v = search (locked, sendable, crosses) depth 20

pub shared_sync : (S N : RattleType) (n : NamingGhosts N.Denot) (D : RattleType) (d : DiskGhosts D.Denot) (G R : RattleType) → IsSend N → IsSend D → IsSync G → IsSync (Shared.the_row S N D G R n d)
shared_sync S N n D d G R t u v = search (locked, sendable, crosses) depth 20

ruleset shared = (shared_send, shared_sync)

pub handle_sync : (S N : RattleType) (n : NamingGhosts N.Denot) (D : RattleType) (d : DiskGhosts D.Denot) (G R : RattleType) → IsSend N → IsSend D → IsSend G → IsSync G → IsSync R → IsSync (Handle.the_row S N D G R n d)
handle_sync S N n D d G R s t u v w = search (shared, sendable, crosses) depth 20

pub handle_send : (S N : RattleType) (n : NamingGhosts N.Denot) (D : RattleType) (d : DiskGhosts D.Denot) (G R : RattleType) → IsSend N → IsSend D → IsSend G → IsSync G → IsSend R → IsSend (Handle.the_row S N D G R n d)
handle_send S N n D d G R s t u v w = search (shared, sendable, crosses) depth 20
