use denote.Param.Send.{sendable}
use Rattle.mc_keep_mem.proofs.keeper.MemKeeper.TheSendSync.{the_send as mem_send}
use Rattle.mc_keep_sql.proofs.Sent.{file_send, file_sync}
use Rattle.mc_keep_any.proofs.any.AnyKeeper.TheSendSync.{the_send as any_send, the_sync as any_sync}
use Rattle.mc.proofs.Crossing.{mem_crosses}
use Rattle.mc.proofs.run_words.Goals as goal

pub run_console-status-requires-send-K-K : goal.run_console-status-requires-send-K-K
run_console-status-requires-send-K-K g c κs within = search (file_send, any_send, mem_send, sendable) depth 12

pub run_console-status-requires-sync-K-K : goal.run_console-status-requires-sync-K-K
run_console-status-requires-sync-K-K g c κs within = search (file_sync, any_sync, mem_crosses, sendable) depth 12
