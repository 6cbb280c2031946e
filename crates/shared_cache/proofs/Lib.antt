mod FrameBytes
