use Rattle.export_model.proofs.EditsBecomeCommands.{edits_fit}
use Rattle.export_model.proofs.AnswersFitOrder.{reads_fit}
use Rattle.export_model.proofs.SchedulesKeepWorld.{sound_reached, grows_run, reached_run}
use Rattle.export_model.proofs.LogTellsDevice.{truth_reached}
use Rattle.export_model.proofs.WaitsForOrder.{waiting_reached}
use Rattle.export_model.specs.laws.Good.{covers_durable}
use Rattle.export_model.specs.laws.Within.{within_reached}
use Rattle.export_model.proofs.law.schedule_law.Goals as goal

pub returns : goal.returns
returns c = record {
  legal = λ world reached. (sound_reached world reached).legal;
  fits = reads_fit;
  edits = edits_fit;
  covered = λ world reached. covers_durable world (sound_reached world reached);
  within = within_reached;
  truth = truth_reached;
  grows = grows_run;
  reached = reached_run;
  waiting = waiting_reached;
}
