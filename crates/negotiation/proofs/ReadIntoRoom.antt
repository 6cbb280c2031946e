-- What is read straight into the room of a request's data.
use Rattle.negotiation.specs.Answered.{Offer}
use Rattle.std.proofs.Common.{ℕ, List, [], Option, refl, ap}
use Rattle.std.specs.Option.{option_map}
use Rattle.nbd_wire.specs.Stream.{Fills as FillsReader, Reader}
use Rattle.negotiation.specs.declared.answer.Agreed.{Agreed}
use Rattle.negotiation.specs.Dialog.{Standing, in_requests}
use Rattle.negotiation.specs.Ends.{end_for}
use Rattle.negotiation.specs.Session.{Fills}
use Rattle.negotiation.specs.inner.Session.{HandsNone}
use Rattle.negotiation.specs.laws.Dialogs.{session_at}
use Rattle.negotiation.specs.laws.Requests.{hands_none}
use Rattle.negotiation.proofs.Sessions.{fed_behind}

pub hands_filled : (old new : Reader) (input left : Option (List ℕ)) (count : ℕ) → FillsReader old input left count new → HandsNone (in_requests old) input left count (in_requests new)
hands_filled old new input left count fills = record {
  piece = fills.piece;
  len = fills.len;
  read = fills.read;
  hands = hands_none old new fills.piece [] fills.feeds refl;
  was = tt;
  said = tt;
  going = (ap (option_map end_for) fills.going, λ is. cc is);
  end = fills.end;
}

pub fills_session : (offer : Offer) (agreed : Agreed) (old new : Standing) (input left : Option (List ℕ)) (count : ℕ) → HandsNone old input left count new → Fills (session_at offer agreed old) input left count (session_at offer agreed new)
fills_session offer agreed old new input left count fills = record {
  piece = fills.piece;
  len = fills.len;
  read = fills.read;
  feeds = fed_behind offer agreed old new [] [] fills.piece [] fills.was refl fills.hands;
  offer = refl;
  said = fills.said;
  going = fills.going;
  end = fills.end;
}
